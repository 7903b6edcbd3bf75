-- The search goes on from step to step.
use Rattle.pesp_search.proofs.Searching.{less_down, less_up}
use Rattle.pesp_search.proofs.tree_search.TreeSearch.run.Goals as goal

pub finish-requires-then-not-backtrack-clause-end : goal.finish-requires-then-not-backtrack-clause-end
finish-requires-then-not-backtrack-clause-end g c = rw c.backtrack.ensures.network (c.backtrack.ensures.end c.if-not-backtrack.true)

pub returns-then-not-keep_leaf-clause-nodes : goal.returns-then-not-keep_leaf-clause-nodes
returns-then-not-keep_leaf-clause-nodes g c = rw (c.keep_leaf.ensures.network, c.nodes.invariant.network) at c.finish.ensures.nodes

pub returns-then-is_reached-clause-nodes : goal.returns-then-is_reached-clause-nodes
returns-then-is_reached-clause-nodes g c = rw c.nodes.invariant.network at c.finish-then-is_reached.ensures.nodes

pub returns-then-not-backtrack-clause-nodes : goal.returns-then-not-backtrack-clause-nodes
returns-then-not-backtrack-clause-nodes g c = rw (c.backtrack.ensures.network, c.nodes.invariant.network) at c.finish-then-not-backtrack.ensures.nodes

-- ---- less is left

pub nodes-smaller-else-not-keep_leaf : goal.nodes-smaller-else-not-keep_leaf
nodes-smaller-else-not-keep_leaf g c =
    less_up (g.K.Keeper.network c.args.keeper.now) (g.K.Keeper.pushes c.nodes.keeper) c.nodes.self c.step.new.self c.keep_leaf.new.self (rw c.nodes.invariant.network at c.step.ensures.searching.searching) c.step.ensures.same
    (c.keep_leaf.ensures.above c.if-not-keep_leaf.false)

pub nodes-smaller-in-Descend : goal.nodes-smaller-in-Descend
nodes-smaller-in-Descend g c =
    less_down (g.K.Keeper.network c.args.keeper.now) (g.K.Keeper.pushes c.nodes.keeper) c.nodes.self c.step.new.self c.descend.new.self c.in-Descend.residue (rw c.nodes.invariant.network at c.step.ensures.searching.searching) c.step.ensures.same
    (rw c.nodes.invariant.network at c.in-Descend.ensures.step) c.descend.ensures.below

pub nodes-smaller : goal.nodes-smaller
nodes-smaller g c =
    less_up (g.K.Keeper.network c.args.keeper.now) (g.K.Keeper.pushes c.nodes.keeper) c.nodes.self c.step.new.self c.backtrack.new.self (rw c.nodes.invariant.network at c.step.ensures.searching.searching) c.step.ensures.same
    (c.backtrack.ensures.above c.if-not-backtrack.false)
