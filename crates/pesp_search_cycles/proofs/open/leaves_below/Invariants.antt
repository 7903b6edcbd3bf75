-- Each map below the cap is in a leaf or in a node.
use Rattle.pesp_search_least.specs.Spending.{OnlySpends}
use Rattle.pesp_search_least.specs.Sums.{InSome}
use Rattle.pesp_search_least.proofs.Stack.{to_expand}
use Rattle.pesp_search_cycles.specs.Leaves.{sums_of}
use Rattle.pesp_search_cycles.specs.Splits.{size}
use Rattle.pesp_search_cycles.specs.declared.node.Node.{Node}
use Rattle.pesp_search_cycles.proofs.Covered.{AreCovered, AreKept}
use Rattle.pesp_search_cycles.proofs.open.leaves_below.Given as goal

abbrev pub invariant-nodes : goal.invariant-nodes
invariant-nodes l =
    record {
      covered : AreCovered l.fn.stack.cycles.now l.limits.cap (InSome sums_of l.fn.stack.nodes.items) l.leaves.boxes.items l.nodes.items;
      kept : AreKept l.fn.stack.cycles.now l.limits.cap l.leaves.boxes.items l.leaves.least;
      spent : OnlySpends l.initial.budget.left l.budget.left;
    }

abbrev pub decreases-nodes : goal.decreases-nodes
decreases-nodes l = to_expand (λ (n : Node). size n.boxes) l.nodes.items
