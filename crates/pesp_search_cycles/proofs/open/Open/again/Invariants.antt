-- The maps of leaves that are left, and of nodes.
use Rattle.std.proofs.Common.{◌≡◌, length}
use Rattle.pesp_search_least.specs.Sums.{InSome}
use Rattle.pesp_search_cycles.specs.declared.node.Node.{Node}
use Rattle.pesp_search_cycles.specs.Leaves.{sums_of}
use Rattle.pesp_search_cycles.specs.Maps.{AreBoxes, IsSummed}
use Rattle.pesp_search_cycles.proofs.Asleep.{AreMoved}
use Rattle.pesp_search_cycles.proofs.open.Open.again.Given as goal

abbrev pub invariant-leaves : goal.invariant-leaves
invariant-leaves l =
    AreMoved (IsSummed l.cycles) sums_of (AreBoxes l.cycles) (λ (n : Node). n.cycles.now ≡ l.cycles) (InSome (IsSummed l.cycles) l.fn.leaves.boxes.items) l.rest.items l.nodes.items

abbrev pub decreases-leaves : goal.decreases-leaves
decreases-leaves l = length l.rest.items
