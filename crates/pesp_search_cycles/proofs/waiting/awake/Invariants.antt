-- The maps of those that wait yet, and of nodes.
use Rattle.std.proofs.Common.{◌≡◌, length}
use Rattle.pesp_search_least.specs.Sums.{InSome}
use Rattle.pesp_search_cycles.specs.declared.node.Node.{Node}
use Rattle.pesp_search_cycles.specs.Leaves.{sums_of}
use Rattle.pesp_search_cycles.specs.Waiting.{IsWaiting, sums_in}
use Rattle.pesp_search_cycles.proofs.Asleep.{AreMoved}
use Rattle.pesp_search_cycles.proofs.waiting.awake.Given as goal

abbrev pub invariant-nodes : goal.invariant-nodes
invariant-nodes l =
    AreMoved (sums_in l.cycles) sums_of (IsWaiting l.cycles) (λ (n : Node). n.cycles.now ≡ l.cycles) (InSome (sums_in l.cycles) l.fn.waiting.items) l.rest.items l.nodes.items

abbrev pub decreases-nodes : goal.decreases-nodes
decreases-nodes l = length l.rest.items
