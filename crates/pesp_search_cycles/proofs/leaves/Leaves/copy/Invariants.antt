-- The boxes so far are copies.
use Rattle.std.proofs.Common.{take}
use Rattle.std.specs.List.{AllZip}
use Rattle.pesp_search_cycles.specs.Splits.{AreSame}
use Rattle.pesp_search_cycles.proofs.leaves.Leaves.copy.Given as goal

abbrev pub invariant-loop-index : goal.invariant-loop-index
invariant-loop-index l = AllZip AreSame (take l.index l.self.boxes.items) l.copy.boxes.items

abbrev pub invariant-loop-proposer : goal.invariant-loop-proposer
invariant-loop-proposer l = AllZip AreSame l.self.boxes.items l.copy.boxes.items
