-- The step is at least its least time above none.
use Rattle.std.proofs.Common.{◌≡◌, pos, ◌+ℤ◌, ◌-ℤ◌, ◌*ℤ◌, get_or, FitsSigned, to_z, of_z, w64, ap, ◌∙◌, arith, rules}
use Rattle.std.proofs.lemmas.Int.{ints}
use Rattle.pesp_search_cycles.specs.Terms.{left}
use Rattle.pesp_search_cycles.proofs.Flipped.{counted, product_is}
use Rattle.pesp_search_cycles.proofs.Numbers.{back}
use Rattle.pesp_search_cycles.proofs.flip.Making.with_counted.Goals as goal

pub returns : goal.returns
returns c zs time inside made =
    let p = c.args.piece in
    let T = c.args.rest.period in
    let a = c.args.rest.rest in
    let y = get_or zs p.number 0 in
    let rest_fits : FitsSigned w64 a = search rules in
    let fixed_fits : FitsSigned w64 p.fixed = search rules in
    let rate_fits : FitsSigned w64 p.rate = search rules in
    let low_fits : FitsSigned w64 p.range.low = search rules in
    let base_fits : FitsSigned w64 c.args.self.base = search rules in
    let least_fits : FitsSigned w64 c.args.self.least = search rules in
    let often_fits : FitsSigned w64 c.in_ok-often.often = search rules in
    let new_base_fits : FitsSigned w64 c.in_ok-base.base = search rules in
    let taken_fits : FitsSigned w64 c.in_ok-fixed.fixed = search rules in
    let up_fits : FitsSigned w64 c.in_ok-low.low = search rules in
    let more_fits : FitsSigned w64 c.in_ok-more.more = search rules in
    let new_least_fits : FitsSigned w64 c.in_ok-least.least = search rules in
    let new_rate_fits : FitsSigned w64 c.in_ok-rate.rate = search rules in
    let period : to_z w64 (of_z w64 c.from-period.result) ≡ pos T = omega (arith, ints, c.from-period.ensures) in
    let often : c.in_ok-often.often ≡ pos T -ℤ a = omega (arith, ints, c.in_ok-often.ensures, period, rest_fits) in
    let base : c.in_ok-base.base ≡ c.args.self.base +ℤ p.range.low = omega (arith, ints, c.in_ok-base.ensures, base_fits, low_fits) in
    let fixed : c.in_ok-fixed.fixed ≡ c.in_ok-often.often *ℤ p.fixed = product_is _ _ _ _ _ c.in_ok-fixed.ensures.1 (back _ often_fits) (back _ fixed_fits) in
    let low : c.in_ok-low.low ≡ pos T *ℤ p.range.low = product_is _ _ _ _ _ c.in_ok-low.ensures.1 period (back _ low_fits) in
    let rate : c.in_ok-rate.rate ≡ c.in_ok-often.often *ℤ p.rate = product_is _ _ _ _ _ c.in_ok-rate.ensures.1 (back _ often_fits) (back _ rate_fits) in
    let least : c.in_ok-least.least ≡ c.args.self.least +ℤ (c.in_ok-low.low -ℤ c.in_ok-fixed.fixed) = omega (arith, ints, c.in_ok-least.ensures, c.in_ok-more.ensures, least_fits, more_fits, up_fits, taken_fits) in
    let e = c.in_ok-made.ensures in
    counted T a c.in_ok-often.often c.args.self c.in_ok-made.made zs time p.fixed p.rate p.range.low y often inside.above
    (e.0 ∙ back _ new_base_fits ∙ base)
    (e.1.0 ∙ back _ new_least_fits ∙ least ∙ ap (λ k. c.args.self.least +ℤ (k -ℤ c.in_ok-fixed.fixed)) low ∙ ap (λ k. c.args.self.least +ℤ (pos T *ℤ p.range.low -ℤ k)) fixed)
    (e.1.1 zs ∙ ap (λ k. left c.args.self.terms.items zs +ℤ k *ℤ pos y) (back _ new_rate_fits ∙ rate))
    made
