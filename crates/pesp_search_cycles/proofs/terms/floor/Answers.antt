-- Each map of the boxes has its numbers and the times of its walks in them.
use Rattle.std.proofs.Common.{◌*◌, ◌≤ℤ◌, pos, FitsSigned, w64, subst, sym, rules}
use Rattle.pesp_search_cycles.specs.Terms.{weighed}
use Rattle.pesp_search_cycles.proofs.Floors.{told}
use Rattle.pesp_search_cycles.proofs.Numbers.{back}
use Rattle.pesp_search_cycles.proofs.terms.floor.Goals as goal

pub returns-in-Some-clause-floor : goal.returns-in-Some-clause-floor
returns-in-Some-clause-floor c =
    let fits : FitsSigned w64 c.in-Some.sum = search rules in
    told c.args.cycles.now c.args.boxes.now c.least_cost.result _ c.args.scale c.sound.ensures
    (λ ys xs long numbers rounds cuts. subst (λ s. s ≤ℤ pos (c.args.scale * weighed c.args.cycles.now.network.arcs ys)) (sym (back _ fits)) (c.in-Some.ensures.least ys xs long numbers rounds cuts))
    c.least_cost.ensures
