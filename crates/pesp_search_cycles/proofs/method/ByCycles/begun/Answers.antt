-- A search at its beginning has found nothing.
use Rattle.std.proofs.Common.{sym, subst}
use Rattle.pesp_search_least.specs.Sums.{IsLowerBound}
use Rattle.pesp_search_network.specs.Arcs.{Arcs, IsCosted}
use Rattle.pesp_search_cycles.proofs.method.ByCycles.begun.Goals as goal

pub new-requires : goal.new-requires
new-requires c = record {
  floor = subst (λ (A : Arcs). IsLowerBound (IsCosted A) c.args.limits.floor) (sym c.in_ok-copy.ensures) c.requires;
  found = tt;
}
