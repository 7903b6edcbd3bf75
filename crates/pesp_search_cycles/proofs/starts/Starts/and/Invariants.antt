-- Each map that is in both is in one of the boxes so far.
use Rattle.std.proofs.Common.{◌≡◌, ℕ, List, take}
use Rattle.pesp_search_least.specs.Sums.{InSome}
use Rattle.pesp_search_cycles.specs.Starts.{IsInBoxes}
use Rattle.pesp_search_cycles.proofs.starts.Starts.and.Given as goal

abbrev pub invariant-loop-index : goal.invariant-loop-index
invariant-loop-index l =
    record {
      cycles : l.both.cycles ≡ l.fn.self.cycles;
      both : (xs : List ℕ) (sum : ℕ) → InSome (IsInBoxes l.fn.self.cycles.now) (take l.index l.fn.self.boxes.items) xs sum → InSome (IsInBoxes l.fn.self.cycles.now) l.others xs sum
          → InSome (IsInBoxes l.fn.self.cycles.now) l.both.boxes.items xs sum;
    }
