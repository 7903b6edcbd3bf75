-- What is told under the cost of a timetable from before is told for the given bound.
use Rattle.std.proofs.Common.{refl}
use Rattle.std.proofs.lemmas.Result.{IfOk-from_err}
use Rattle.pesp_search.specs.Tried.{IsOutcome}
use Rattle.pesp_search.proofs.Beforehand.{bound_of_before, exact_told, floor_told, outcome_told}
use Rattle.pesp_search.proofs.search.search_tree.Goals as goal

pub new-requires-clause-network : goal.new-requires-clause-network
new-requires-clause-network g c = c.requires.network

pub new-requires-clause-events : goal.new-requires-clause-events
new-requires-clause-events g c = c.requires.events

pub new-requires-clause-pushes : goal.new-requires-clause-pushes
new-requires-clause-pushes g c = c.requires.pushes

pub run-outcome-requires : goal.run-outcome-requires
run-outcome-requires g c = record { searching = rw c.requires.pushes c.in_ok-search.ensures.searching; start = c.in_ok-search.ensures.nodes }

pub returns-clause-known : goal.returns-clause-known
returns-clause-known g c =
    let I = g.K.Keeper.network c.args.keeper.now in
    let outcome = c.run-outcome.result in
    let sought = c.args.sought in
    let least = bound_of_before I c.args.ask.bound sought.best c.requires.bound c.requires.found in
    let run = (rw (c.in_ok-search.ensures.bound, c.in_ok-search.ensures.limit, c.lowest-lowest.ensures) at c.run-outcome.ensures.outcome) least in
    let told = outcome_told I c.args.ask.bound c.args.ask.limit sought.best outcome.best outcome.is_stopped outcome.nodes c.requires.found c.requires.none run in
    let is : IsOutcome I c.args.ask.bound c.args.ask.limit outcome.is_stopped c.best_told-best.result outcome.nodes = rw c.best_told-best.ensures told in
    record {
      outcome = rw (c.known_of.ensures.best, c.known_of.ensures.stopped) is;
      floor = rw c.known_of.ensures.bound (floor_told I c.args.ask.bound c.args.ask.limit outcome.is_stopped c.best_told-best.result sought.floor outcome.nodes c.requires.floor is);
      exact = rw (c.known_of.ensures.best, c.known_of.ensures.bound, c.known_of.ensures.stopped) (exact_told outcome.is_stopped c.best_told-best.result sought.floor);
    }

pub returns-clause-nodes : goal.returns-clause-nodes
returns-clause-nodes g c = c.run-outcome.ensures.nodes

pub returns-clause-network : goal.returns-clause-network
returns-clause-network g c = c.run-outcome.ensures.network

pub returns-clause-pushes : goal.returns-clause-pushes
returns-clause-pushes g c = c.run-outcome.ensures.pushes

-- ---- out of memory

pub returns-in_err-search-clause-known : goal.returns-in_err-search-clause-known
returns-in_err-search-clause-known g c = IfOk-from_err c.from_residual.result _ c.from_residual.ensures.0

pub returns-in_err-search-clause-nodes : goal.returns-in_err-search-clause-nodes
returns-in_err-search-clause-nodes g c = IfOk-from_err c.from_residual.result _ c.from_residual.ensures.0

pub returns-in_err-search-clause-network : goal.returns-in_err-search-clause-network
returns-in_err-search-clause-network g c = refl

pub returns-in_err-search-clause-pushes : goal.returns-in_err-search-clause-pushes
returns-in_err-search-clause-pushes g c = c.requires.pushes
