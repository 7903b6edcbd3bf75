-- The network is its own.
use Rattle.std.proofs.Common.{List, sym, subst}
use Rattle.pesp_search_network.specs.Arcs.{Arcs}
use Rattle.pesp_search_network.specs.Reduced.{IsReduced}
use Rattle.pesp_search_network.specs.Shifts.{lifted}
use Rattle.pesp_search_network.specs.declared.presolve.shift.Shift.{Shift}
use Rattle.pesp_search_network.proofs.Untied.{reduced_itself}
use Rattle.pesp_search_network.proofs.network.Network.itself.Goals as goal

pub returns : goal.returns
returns c =
    let N = c.args.self.now in
    let shifts : List Shift = c.in_ok-shifts.shifts.items in
    subst (λ (L : Arcs). IsReduced N L 0 1 (lifted L.period shifts)) (sym c.in_ok-copy.ensures) (reduced_itself N shifts c.in_ok-shifts.ensures.untied)
