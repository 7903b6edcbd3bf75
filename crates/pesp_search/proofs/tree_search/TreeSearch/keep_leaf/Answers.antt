-- The times of a leaf are the best so far, and nothing more is below it.
use Rattle.std.proofs.Common.{length, sym, ap, ◌∙◌}
use Rattle.pesp_search.proofs.Searching.{over_leaf, searching_leaf}
use Rattle.pesp_search.proofs.tree_search.TreeSearch.keep_leaf.Goals as goal

pub keep-requires : goal.keep-requires
keep-requires g c = ap length c.deref.ensures.value ∙ (c.requires.leaf.0.events ∙ sym c.requires.searching.incumbent.long)

pub backtrack-requires-clause-searching : goal.backtrack-requires-clause-searching
backtrack-requires-clause-searching g c =
    searching_leaf (g.K.Keeper.network c.args.keeper.now) (g.K.Keeper.pushes c.args.keeper.now) c.args.self.now c.keep.new.self c.requires.searching c.requires.leaf c.keep.ensures.bound c.keep.ensures.cost
    (c.keep.ensures.times ∙ c.deref.ensures.value)

pub backtrack-requires-clause-over : goal.backtrack-requires-clause-over
backtrack-requires-clause-over g c =
    over_leaf (g.K.Keeper.network c.args.keeper.now) (g.K.Keeper.pushes c.args.keeper.now) c.args.self.now c.keep.new.self c.requires.searching c.requires.leaf c.keep.ensures.bound c.keep.ensures.cost
    (c.keep.ensures.times ∙ c.deref.ensures.value)
