-- An empty domain, or what the search in turn tells.
use Rattle.std.proofs.Common.{[], None, refl, ap, ◌∙◌}
use Rattle.std.proofs.lemmas.Result.{IfOk-from_err}
use Rattle.pesp_instance.specs.Network.{event_ids}
use Rattle.pesp_search.specs.Paths.{IsDeadEnd}
use Rattle.pesp_search.proofs.Beforehand.{known_of_end}
use Rattle.pesp_search.proofs.Sizes.{no_nodes}
use Rattle.pesp_search.proofs.Sought.{dead_of_empty, dead_outcome}
use Rattle.pesp_search.proofs.Ends.{no_member}
use Rattle.pesp_search.proofs.search.search.Goals as goal

pub has_empty_row-requires : goal.has_empty_row-requires
has_empty_row-requires g c = c.deref.ensures.value ∙ c.in_ok-events.ensures.events ∙ ap event_ids c.instance.ensures

pub search_in_turn-requires-clause-network : goal.search_in_turn-requires-clause-network
search_in_turn-requires-clause-network g c = rw c.instance.ensures at c.events_of.ensures.network

pub search_in_turn-requires-clause-events : goal.search_in_turn-requires-clause-events
search_in_turn-requires-clause-events g c = c.deref-2.ensures.value ∙ c.in_ok-events.ensures.events ∙ ap event_ids c.instance.ensures

pub search_in_turn-requires-clause-pushes : goal.search_in_turn-requires-clause-pushes
search_in_turn-requires-clause-pushes g c = c.requires.pushes

pub search_in_turn-requires-clause-bound : goal.search_in_turn-requires-clause-bound
search_in_turn-requires-clause-bound g c = c.requires.bound

-- ---- an empty domain

pub returns-then-has_empty_row-clause-known : goal.returns-then-has_empty_row-clause-known
returns-then-has_empty_row-clause-known g c =
    let I = g.K.Keeper.network c.args.keeper.now in
    let network = rw c.instance.ensures at c.events_of.ensures.network in
    let dead : IsDeadEnd I [] = dead_of_empty I (g.K.Keeper.pushes c.args.keeper.now) c.requires.pushes (c.has_empty_row.ensures.dead c.if-has_empty_row.true) in
    rw (c.known_of.ensures.best, c.known_of.ensures.bound, c.known_of.ensures.stopped)
    (known_of_end I c.args.ask.bound c.args.ask.limit None _ (dead_outcome I c.args.ask.bound c.args.ask.limit network dead) (λ m member. absurd (no_member I m network dead member)))

pub returns-then-has_empty_row-clause-nodes : goal.returns-then-has_empty_row-clause-nodes
returns-then-has_empty_row-clause-nodes g c = no_nodes (g.K.Keeper.network c.args.keeper.now)

pub returns-then-has_empty_row-clause-is_network : goal.returns-then-has_empty_row-clause-is_network
returns-then-has_empty_row-clause-is_network g c = rw c.instance.ensures at c.events_of.ensures.network

pub returns-then-has_empty_row-clause-network : goal.returns-then-has_empty_row-clause-network
returns-then-has_empty_row-clause-network g c = refl

pub returns-then-has_empty_row-clause-pushes : goal.returns-then-has_empty_row-clause-pushes
returns-then-has_empty_row-clause-pushes g c = c.requires.pushes

-- ---- what the search told

pub returns-clause-known : goal.returns-clause-known
returns-clause-known g c = c.search_in_turn.ensures.known

pub returns-clause-nodes : goal.returns-clause-nodes
returns-clause-nodes g c = c.search_in_turn.ensures.nodes

pub returns-clause-is_network : goal.returns-clause-is_network
returns-clause-is_network g c = rw c.instance.ensures at c.events_of.ensures.network

pub returns-clause-network : goal.returns-clause-network
returns-clause-network g c = c.search_in_turn.ensures.network

pub returns-clause-pushes : goal.returns-clause-pushes
returns-clause-pushes g c = c.search_in_turn.ensures.pushes

-- ---- want of memory

pub returns-in_err-events-clause-known : goal.returns-in_err-events-clause-known
returns-in_err-events-clause-known g c = IfOk-from_err c.from_residual.result _ c.from_residual.ensures.0

pub returns-in_err-events-clause-nodes : goal.returns-in_err-events-clause-nodes
returns-in_err-events-clause-nodes g c = IfOk-from_err c.from_residual.result _ c.from_residual.ensures.0

pub returns-in_err-events-clause-is_network : goal.returns-in_err-events-clause-is_network
returns-in_err-events-clause-is_network g c = rw c.instance.ensures at c.events_of.ensures.network

pub returns-in_err-events-clause-network : goal.returns-in_err-events-clause-network
returns-in_err-events-clause-network g c = refl

pub returns-in_err-events-clause-pushes : goal.returns-in_err-events-clause-pushes
returns-in_err-events-clause-pushes g c = c.requires.pushes
