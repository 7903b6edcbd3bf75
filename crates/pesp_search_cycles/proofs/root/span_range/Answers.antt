-- A slack is below the period, and within the span where the arc is met.
use Rattle.std.proofs.Common.{◌≡◌, ℤ, pos, ◌-ℤ◌, FitsSigned, to_z, of_z, w32, w64, ap, ◌∙◌, arith, rules}
use Rattle.std.specs.Int.{int_min}
use Rattle.std.proofs.lemmas.Int.{ints}
use Rattle.pesp_search_cycles.proofs.Numbers.{back}
use Rattle.pesp_search_cycles.proofs.Ranged.{slack_in}
use Rattle.pesp_search_cycles.proofs.root.span_range.Goals as goal

pub returns : goal.returns
returns c r s met =
    let T = c.args.period in
    let span = c.args.arc.now.span in
    let upper : c.upper.result ≡ span.upper = c.upper.ensures.value in
    let lower : c.lower.result ≡ span.lower = c.lower.ensures.value in
    let upper_fits : FitsSigned w32 c.upper.result = search rules in
    let lower_fits : FitsSigned w32 c.lower.result = search rules in
    let min_fits : FitsSigned w64 c.min.result = search rules in
    let w : ℤ = to_z w64 (of_z w64 (to_z w64 (of_z w64 c.from.result) -ℤ to_z w64 (of_z w64 c.from-2.result))) in
    let width : w ≡ span.upper -ℤ span.lower =
    omega (arith, ints, upper, lower, upper_fits, lower_fits, c.from.ensures, c.from-2.ensures) in
    let last : to_z w64 (of_z w64 (to_z w64 (of_z w64 c.from-3.result) -ℤ pos 1)) ≡ pos T -ℤ pos 1 =
    omega (arith, ints, c.from-3.ensures, c.get.ensures.value, c.get.ensures.limits) in
    slack_in T span r s w (to_z w64 (of_z w64 c.min.result)) (omega (arith, c.get.ensures.limits)) met width (back _ min_fits ∙ c.min.ensures.value ∙ ap (int_min w) last)
