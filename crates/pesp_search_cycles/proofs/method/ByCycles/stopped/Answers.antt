-- The search that stopped is of the same network.
use Rattle.std.proofs.Common.{◌≡◌, subst, rules}
use Rattle.pesp_search_least.specs.Sums.{IsLowerBound}
use Rattle.pesp_search_network.specs.Arcs.{Arcs, IsCosted}
use Rattle.pesp_search_cycles.proofs.method.ByCycles.stopped.Goals as goal

pub within-requires : goal.within-requires
within-requires c =
    let same : c.args.network.now ≡ c.in_ok-search.search.search.network = search rules in
    subst (λ (A : Arcs). IsLowerBound (IsCosted A) c.args.limits.floor) same c.requires
