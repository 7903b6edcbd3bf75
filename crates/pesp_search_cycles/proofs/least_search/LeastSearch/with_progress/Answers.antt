-- What is known more is of the same network.
use Rattle.std.proofs.Common.{ap, sym, subst}
use Rattle.pesp_search_network.specs.Arcs.{Arcs, IsCosted}
use Rattle.pesp_search_cycles.specs.Maps.{Net}
use Rattle.pesp_search_cycles.specs.Searches.{LeastStanding}
use Rattle.pesp_search_cycles.specs.Stacks.{IsProgress, net_of}
use Rattle.pesp_search_cycles.proofs.least_search.LeastSearch.with_progress.Goals as goal

pub invariant_of-result : goal.invariant_of-result
invariant_of-result c =
    let N : Net = net_of c.self.inside.network c.self.inside.walks.items c.self.inside.cuts.items in
    let progress : IsProgress (IsCosted N.network) c.args.progress.now =
    subst (λ (A : Arcs). IsProgress (IsCosted A) c.args.progress.now) (sym (ap (λ (v : LeastStanding). v.network) c.self.view_is)) c.requires.progress in
    (c.self.invariant.0, c.in_ok-stack.ensures.stack N c.self.invariant.1 progress)
