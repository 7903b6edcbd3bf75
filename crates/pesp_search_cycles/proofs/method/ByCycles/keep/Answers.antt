-- What is kept is a copy.
use Rattle.std.proofs.Common.{sym, subst}
use Rattle.pesp_search_least.specs.Sums.{IsLeast}
use Rattle.pesp_search_least.proofs.Reached.{least_equal}
use Rattle.pesp_search_network.specs.Arcs.{Arcs, IsCosted}
use Rattle.pesp_search_cycles.proofs.method.ByCycles.keep.Goals as goal

pub invariant_of-push : goal.invariant_of-push
invariant_of-push c = record {
  solves = subst (λ (A : Arcs). IsLeast (IsCosted A) c.in-Ok-Ok.least) (sym c.in-Ok-Ok.ensures)
      (least_equal (IsCosted c.args.network.now) c.args.least.now c.in-Ok-Ok.least c.in-Ok-Ok.ensures' c.requires);
}
