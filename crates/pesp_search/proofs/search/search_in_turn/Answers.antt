-- The end of the search by cycles, or the tree.
use Rattle.std.proofs.Common.{sym, subst, ◌∙◌}
use Rattle.std.proofs.lemmas.Bool.{false≢true}
use Rattle.std.proofs.lemmas.Result.{IfOk-from_err}
use Rattle.pesp_search.specs.Sought.{IsSought}
use Rattle.pesp_search.proofs.Beforehand.{known_of_end}
use Rattle.pesp_search.proofs.Sizes.{no_nodes}
use Rattle.pesp_search.proofs.Sought.{ended_outcome, found_of_sought}
use Rattle.pesp_search.proofs.search.search_in_turn.Goals as goal

-- ---- the search by cycles

pub seek-requires-clause-network : goal.seek-requires-clause-network
seek-requires-clause-network g c = c.requires.network

pub seek-requires-clause-events : goal.seek-requires-clause-events
seek-requires-clause-events g c = c.requires.events

pub seek-requires-clause-pushes : goal.seek-requires-clause-pushes
seek-requires-clause-pushes g c = c.requires.pushes

pub seek-requires-clause-bound : goal.seek-requires-clause-bound
seek-requires-clause-bound g c = c.requires.bound

pub returns-then-sought-clause-known : goal.returns-then-sought-clause-known
returns-then-sought-clause-known g c =
    let I = g.K.Keeper.network c.args.keeper.now in
    let sought = c.in_ok-sought.sought in
    let end = subst (λ b. IsSought I c.args.ask.bound b sought.best) c.if-sought.true c.in_ok-sought.ensures.sought in
    let outcome = ended_outcome I c.args.ask.bound c.args.ask.limit sought.best end (λ zero. false≢true (sym (c.in_ok-sought.ensures.none zero).0 ∙ c.if-sought.true)) in
    rw (c.known_of.ensures.best, c.known_of.ensures.bound, c.known_of.ensures.stopped) (known_of_end I c.args.ask.bound c.args.ask.limit sought.best sought.floor outcome c.in_ok-sought.ensures.floor)

pub returns-then-sought-clause-nodes : goal.returns-then-sought-clause-nodes
returns-then-sought-clause-nodes g c = no_nodes (g.K.Keeper.network c.args.keeper.now)

-- ---- the tree

pub search_tree-requires-clause-network : goal.search_tree-requires-clause-network
search_tree-requires-clause-network g c = c.requires.network

pub search_tree-requires-clause-events : goal.search_tree-requires-clause-events
search_tree-requires-clause-events g c = c.requires.events

pub search_tree-requires-clause-pushes : goal.search_tree-requires-clause-pushes
search_tree-requires-clause-pushes g c = c.requires.pushes

pub search_tree-requires-clause-bound : goal.search_tree-requires-clause-bound
search_tree-requires-clause-bound g c = c.requires.bound

pub search_tree-requires-clause-found : goal.search_tree-requires-clause-found
search_tree-requires-clause-found g c =
    let sought = c.in_ok-sought.sought in
    found_of_sought (g.K.Keeper.network c.args.keeper.now) c.args.ask.bound sought.is_end sought.best c.if-sought.false c.in_ok-sought.ensures.sought

pub search_tree-requires-clause-none : goal.search_tree-requires-clause-none
search_tree-requires-clause-none g c zero = (c.in_ok-sought.ensures.none zero).1

pub search_tree-requires-clause-floor : goal.search_tree-requires-clause-floor
search_tree-requires-clause-floor g c = c.in_ok-sought.ensures.floor

pub returns-clause-known : goal.returns-clause-known
returns-clause-known g c = c.search_tree.ensures.known

pub returns-clause-nodes : goal.returns-clause-nodes
returns-clause-nodes g c = c.search_tree.ensures.nodes

-- ---- out of memory

pub returns-in_err-sought-clause-known : goal.returns-in_err-sought-clause-known
returns-in_err-sought-clause-known g c = IfOk-from_err c.from_residual.result _ c.from_residual.ensures.0

pub returns-in_err-sought-clause-nodes : goal.returns-in_err-sought-clause-nodes
returns-in_err-sought-clause-nodes g c = IfOk-from_err c.from_residual.result _ c.from_residual.ensures.0
