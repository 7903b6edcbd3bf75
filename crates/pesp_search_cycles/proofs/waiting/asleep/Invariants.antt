-- The maps of nodes that are left, and of those that wait.
use Rattle.std.proofs.Common.{◌≡◌, length}
use Rattle.pesp_search_least.specs.Sums.{InSome}
use Rattle.pesp_search_cycles.specs.declared.node.Node.{Node}
use Rattle.pesp_search_cycles.specs.Leaves.{sums_of}
use Rattle.pesp_search_cycles.specs.Waiting.{IsWaiting, sums_in}
use Rattle.pesp_search_cycles.proofs.Asleep.{AreMoved}
use Rattle.pesp_search_cycles.proofs.waiting.asleep.Given as goal

abbrev pub invariant-nodes : goal.invariant-nodes
invariant-nodes l =
    AreMoved sums_of (sums_in l.cycles) (λ (n : Node). n.cycles.now ≡ l.cycles) (IsWaiting l.cycles) (InSome sums_of l.fn.nodes.items) l.rest.items l.waiting.items

abbrev pub decreases-nodes : goal.decreases-nodes
decreases-nodes l = length l.rest.items
