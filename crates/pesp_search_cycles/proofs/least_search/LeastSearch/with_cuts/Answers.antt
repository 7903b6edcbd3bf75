-- What this search has found serves the other one.
use Rattle.std.proofs.Common.{sym, subst}
use Rattle.pesp_search_network.specs.Arcs.{Arcs, IsCosted}
use Rattle.pesp_search_cycles.specs.Stacks.{IsProgress}
use Rattle.pesp_search_cycles.proofs.Stood.{progress_copied}
use Rattle.pesp_search_cycles.proofs.least_search.LeastSearch.with_cuts.Goals as goal

pub of-requires : goal.of-requires
of-requires c =
    let own = c.self.invariant.1 in
    let A : Arcs = c.self.inside.network in
    let before : IsProgress (IsCosted A) c.self.inside.stack.progress = record { floor = own.floor; found = own.underway.found } in
    subst (λ (B : Arcs). IsProgress (IsCosted B) c.in_ok-progress.progress) (sym c.in_ok-network.ensures)
    (progress_copied (IsCosted A) c.self.inside.stack.progress c.in_ok-progress.progress c.in_ok-progress.ensures.limits c.in_ok-progress.ensures.best before)
