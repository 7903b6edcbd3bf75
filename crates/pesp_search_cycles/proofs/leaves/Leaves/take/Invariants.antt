-- The boxes stay.
use Rattle.std.proofs.Common.{◌≡◌}
use Rattle.pesp_search_cycles.proofs.leaves.Leaves.take.Given as goal

abbrev pub invariant-loop-leaf : goal.invariant-loop-leaf
invariant-loop-leaf l = l.self.boxes ≡ l.initial.self.boxes
