-- The map is one of the network, and costs less than the cap.
use Rattle.std.proofs.Common.{◌≡◌, Some, ap, subst}
use Rattle.pesp_search_least.specs.declared.outcome.Candidate.{Candidate}
use Rattle.pesp_search_network.specs.Arcs.{Arcs, IsCosted}
use Rattle.pesp_search_cycles.specs.Searches.{LeastStanding}
use Rattle.pesp_search_cycles.specs.Stacks.{IsProgress}
use Rattle.pesp_search_cycles.specs.declared.stack.Progress.{Progress}
use Rattle.pesp_search_cycles.proofs.least_search.LeastSearch.progress_with.Goals as goal

pub returns-clause-progress : goal.returns-clause-progress
returns-clause-progress c =
    let own = c.self.invariant.1 in
    let A : Arcs = c.self.inside.network in
    let same : A ≡ c.args.self.now.network = ap (λ (v : LeastStanding). v.network) c.self.view_is in
    let costed : IsCosted A c.args.map.items c.in_ok-cost.cost =
    subst (λ xs. IsCosted A xs c.in_ok-cost.cost) c.deref.ensures.value c.in_ok-cost.ensures in
    let found : Candidate = record { cost = c.in_ok-cost.cost; map = c.args.map } in
    let progress : Progress = record { limits = c.self.inside.stack.progress.limits; best = Some found } in
    subst (λ (B : Arcs). IsProgress (IsCosted B) progress) same (record { floor = own.floor; found = (costed, c.if-limits-cost.false) })
