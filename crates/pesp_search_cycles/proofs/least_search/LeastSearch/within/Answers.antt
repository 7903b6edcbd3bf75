-- The stack stands for the other cap.
use Rattle.std.proofs.Common.{ap}
use Rattle.pesp_search_least.specs.Sums.{IsLowerBound}
use Rattle.pesp_search_network.specs.Arcs.{IsCosted}
use Rattle.pesp_search_cycles.specs.Maps.{Net}
use Rattle.pesp_search_cycles.specs.Searches.{LeastStanding}
use Rattle.pesp_search_cycles.specs.Stacks.{net_of}
use Rattle.pesp_search_cycles.proofs.least_search.LeastSearch.within.Goals as goal

pub invariant_of-result : goal.invariant_of-result
invariant_of-result c =
    let N : Net = net_of c.self.inside.network c.self.inside.walks.items c.self.inside.cuts.items in
    let floor : IsLowerBound (IsCosted N.network) c.args.limits.floor = rw (← ap (λ (v : LeastStanding). v.network) c.self.view_is) at c.requires in
    (c.self.invariant.0, (c.in_ok-stack.ensures N c.self.invariant.1 floor).0)

pub returns-clause-cap : goal.returns-clause-cap
returns-clause-cap c =
    let N : Net = net_of c.self.inside.network c.self.inside.walks.items c.self.inside.cuts.items in
    let floor : IsLowerBound (IsCosted N.network) c.args.limits.floor = rw (← ap (λ (v : LeastStanding). v.network) c.self.view_is) at c.requires in
    (c.in_ok-stack.ensures N c.self.invariant.1 floor).1
