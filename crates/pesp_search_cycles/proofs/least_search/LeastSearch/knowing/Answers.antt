-- What the other search has found is of the same network, below the same cap.
use Rattle.std.proofs.Common.{◌≡◌, ◌∙◌, ap, subst}
use Rattle.pesp_search_network.specs.Arcs.{Arcs, IsCosted}
use Rattle.pesp_search_cycles.specs.Searches.{LeastStanding}
use Rattle.pesp_search_cycles.specs.Stacks.{IsProgress}
use Rattle.pesp_search_cycles.proofs.least_search.LeastSearch.knowing.Goals as goal

pub with_progress-requires-clause-progress : goal.with_progress-requires-clause-progress
with_progress-requires-clause-progress c =
    let other = c.other.invariant.1 in
    let same : c.other.inside.network ≡ c.args.self.network = ap (λ (v : LeastStanding). v.network) c.other.view_is ∙ c.requires.network in
    subst (λ (A : Arcs). IsProgress (IsCosted A) c.other.inside.stack.progress) same (record { floor = other.floor; found = other.underway.found })
