-- Against the arc it is the negative of its time.
use Rattle.std.proofs.Common.{◌≡◌, ◌<◌, ◌^◌, pos, neg_ℤ, ◌+ℤ◌, ◌-ℤ◌, get_or, FitsSigned, to_z, of_z, w32, w64, sym, ap, ◌∙◌, arith, rules}
use Rattle.std.proofs.lemmas.Int.{ints}
use Rattle.std.proofs.lemmas.List.{get_or_read}
use Rattle.pesp_search_cycles.specs.Walks.{arc_at, no_arc, signed}
use Rattle.pesp_search_cycles.proofs.admitted.step_time.Goals as goal

pub returns-else-step : goal.returns-else-step
returns-else-step c =
    let k = c.args.step.arc in
    let span = (arc_at c.args.arcs.now k).span in
    let y = get_or c.args.numbers.now k 0 in
    let same = get_or_read c.args.arcs.now k c.index-arcs-step.result (omega arith) c.index-arcs-step.is no_arc in
    let lower : c.lower.result ≡ span.lower = c.lower.ensures.value ∙ ap (λ a. a.span.lower) same in
    let lower_fits : FitsSigned w32 c.lower.result = search rules in
    let y_fits : y < 2 ^ 16 = search rules in
    let e : to_z w64 (of_z w64 (pos 0 -ℤ to_z w64 (of_z w64 (to_z w64 (of_z w64 c.from.result) +ℤ to_z w64 (of_z w64 c.from-2.result))))) ≡ neg_ℤ (span.lower +ℤ pos y) =
    omega (arith, ints, lower, lower_fits, y_fits, c.from.ensures, c.from-2.ensures) in
    e ∙ sym (ap (λ b. signed b (span.lower +ℤ pos y)) c.if-step.false)
