-- The last time is taken away with its pair, or the search is at its end.
use Rattle.std.proofs.Common.{◌∷◌, [], ◌++◌, length, refl, ap, arith}
use Rattle.std.proofs.lemmas.List.{length_push}
use Rattle.pesp_search.specs.Found.{AtLeast, limit_of}
use Rattle.pesp_search.specs.Nodes.{IsAt}
use Rattle.pesp_search.proofs.Moves.{at_length, last_below}
use Rattle.pesp_search.proofs.Searching.{ended, searching_none, searching_up}
use Rattle.pesp_search.proofs.tree_search.TreeSearch.backtrack.Goals as goal

pub pop_fix-requires : goal.pop_fix-requires
pop_fix-requires g c =
    let I = g.K.Keeper.network c.args.keeper.now in
    let state = c.args.self.now in
    let long = at_length (AtLeast I (limit_of state.incumbent)) I (g.K.Keeper.pushes c.args.keeper.now) state.branch.times.items state.from c.requires.searching.at in
    omega (arith, long, ap length c.in-Some.ensures.times, length_push c.pop.new.self.times.items c.in-Some.residue)

pub overflow_add-self : goal.overflow_add-self
overflow_add-self g c =
    let I = g.K.Keeper.network c.args.keeper.now in
    let state = c.args.self.now in
    let P = AtLeast I (limit_of state.incumbent) in
    let at : IsAt P I (g.K.Keeper.pushes c.args.keeper.now) (c.pop.new.self.times.items ++ c.in-Some.residue ∷ []) state.from = rw c.in-Some.ensures.times at c.requires.searching.at in
    let below = last_below P I (g.K.Keeper.pushes c.args.keeper.now) c.pop.new.self.times.items c.in-Some.residue state.from at in
    omega (arith, below, c.requires.searching.network.period_high)

pub returns-in-Some-clause-searching : goal.returns-in-Some-clause-searching
returns-in-Some-clause-searching g c =
    record {
      searching =
          searching_up (g.K.Keeper.network c.args.keeper.now) (g.K.Keeper.pushes c.args.keeper.now) _ c.pop_fix.ensures.pushes.0 c.args.self.now c.pop.new.self c.in-Some.residue c.requires.searching c.requires.over
          (rw c.instance.ensures at c.in-Some.ensures.branch) c.in-Some.ensures.times c.pop_fix.ensures.pushes.1;
      bound = refl;
      limit = refl;
    }

pub returns-in-None-clause-searching : goal.returns-in-None-clause-searching
returns-in-None-clause-searching g c =
    record {
      searching =
          searching_none (g.K.Keeper.network c.args.keeper.now) (g.K.Keeper.pushes c.args.keeper.now) c.args.self.now c.pop.new.self c.requires.searching (rw c.instance.ensures at c.in-None.ensures.branch) c.in-None.ensures.times.0
          c.in-None.ensures.times.1;
      bound = refl;
      limit = refl;
    }

pub returns-in-None-clause-end : goal.returns-in-None-clause-end
returns-in-None-clause-end g c _ =
    ended (g.K.Keeper.network c.args.keeper.now) (g.K.Keeper.pushes c.args.keeper.now) c.args.self.now c.pop.new.self c.requires.searching c.requires.over c.in-None.ensures.times.0
