-- The boxes before are there, and those narrowed to others so far.
use Rattle.std.proofs.Common.{◌≡◌, take}
use Rattle.pesp_search_least.specs.Sums.{InSome, IsWithin}
use Rattle.pesp_search_cycles.specs.Maps.{IsInside}
use Rattle.pesp_search_cycles.specs.Starts.{IsInBoxes}
use Rattle.pesp_search_cycles.proofs.Opened.{AreBoth}
use Rattle.pesp_search_cycles.proofs.starts.Starts.push.Given as goal

abbrev pub invariant-loop-index : goal.invariant-loop-index
invariant-loop-index l =
    record {
      cycles : l.self.cycles ≡ l.fn.self.cycles;
      before : IsWithin (InSome (IsInBoxes l.fn.self.cycles.now) l.fn.self.boxes.items) (InSome (IsInBoxes l.fn.self.cycles.now) l.self.boxes.items);
      both : AreBoth l.fn.self.cycles.now (IsInside l.fn.self.cycles.now l.boxes) (take l.index l.others) l.self.boxes.items;
    }
