-- The known cost is asked first, and then the domains.
use Rattle.std.proofs.lemmas.Bool.{MatchBool-at_false, MatchBool-at_true}
use Rattle.pesp_search.proofs.Searching.{over_known, over_stuck}
use Rattle.pesp_search.proofs.tree_search.TreeSearch.step.Goals as goal

-- ---- the known cost has come to the limit

pub returns-then-cuts-clause-step : goal.returns-then-cuts-clause-step
returns-then-cuts-clause-step g c =
    over_known (g.K.Keeper.network c.args.keeper.now) (g.K.Keeper.pushes c.args.keeper.now) c.args.self.now c.requires.searching (MatchBool-at_true _ _ c.if-cuts.true c.cuts.ensures)

-- ---- what the domains leave

pub returns-in-Leaf-clause-step : goal.returns-in-Leaf-clause-step
returns-in-Leaf-clause-step g c = (rw c.deref.ensures.value at c.in-Leaf.ensures, MatchBool-at_false _ _ c.if-cuts.false c.cuts.ensures)

pub step_from-requires-clause-first : goal.step_from-requires-clause-first
step_from-requires-clause-first g c = rw c.deref.ensures.value at c.in-Descend.ensures

pub returns-in-Backtrack-clause-step : goal.returns-in-Backtrack-clause-step
returns-in-Backtrack-clause-step g c =
    over_stuck (g.K.Keeper.network c.args.keeper.now) (g.K.Keeper.pushes c.args.keeper.now) c.args.self.now c.requires.searching (rw c.deref.ensures.value at c.in-Backtrack.ensures)
