-- What is told of the search is the outcome.
use Rattle.std.proofs.Common.{arith}
use Rattle.pesp_search.specs.Found.{AtLeast, limit_of}
use Rattle.pesp_search.proofs.Ends.{outcome_of}
use Rattle.pesp_search.proofs.Fronts.{front_none}
use Rattle.pesp_search.proofs.Moves.{at_length}
use Rattle.pesp_search.proofs.tree_search.TreeSearch.finish.Goals as goal

pub unwind-requires : goal.unwind-requires
unwind-requires g c =
    let I = g.K.Keeper.network c.args.keeper.now in
    let long = at_length (AtLeast I (limit_of c.args.self.incumbent)) I (g.K.Keeper.pushes c.args.keeper.now) c.args.self.branch.times.items c.args.self.from c.requires.searching.at in
    omega (arith, long, c.len.ensures)

pub best_of-best-requires-clause-front : goal.best_of-best-requires-clause-front
best_of-best-requires-clause-front g c =
    rw (c.instance.ensures, c.unwind.ensures.network) (front_none (g.K.Keeper.network c.args.keeper.now) c.args.self.branch.times.items c.args.self.branch.timetable c.requires.searching.branch.front)

pub returns-clause-outcome : goal.returns-clause-outcome
returns-clause-outcome g c is_bound =
    let I = g.K.Keeper.network c.args.keeper.now in
    outcome_of I (g.K.Keeper.pushes c.args.keeper.now) c.args.self c.args.is_stopped c.best_of-best.result c.requires.searching c.requires.end (rw (c.instance.ensures, c.unwind.ensures.network) at c.best_of-best.ensures) is_bound
