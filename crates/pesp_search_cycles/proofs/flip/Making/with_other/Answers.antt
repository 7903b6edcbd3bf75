-- The step is at most its greatest time.
use Rattle.std.proofs.Common.{◌≡◌, pos, neg_ℤ, ◌+ℤ◌, ◌*ℤ◌, get_or, FitsSigned, w64, ap, ◌∙◌, arith, rules}
use Rattle.std.proofs.lemmas.Int.{ints}
use Rattle.pesp_search_cycles.specs.Terms.{left}
use Rattle.pesp_search_cycles.proofs.Flipped.{other, product_is}
use Rattle.pesp_search_cycles.proofs.Numbers.{back}
use Rattle.pesp_search_cycles.proofs.flip.Making.with_other.Goals as goal

pub returns : goal.returns
returns c zs time inside made =
    let p = c.args.piece in
    let T = c.args.rest.period in
    let a = c.args.rest.rest in
    let y = get_or zs p.number 0 in
    let rest_fits : FitsSigned w64 a = search rules in
    let fixed_fits : FitsSigned w64 p.fixed = search rules in
    let rate_fits : FitsSigned w64 p.rate = search rules in
    let high_fits : FitsSigned w64 p.range.high = search rules in
    let base_fits : FitsSigned w64 c.args.self.base = search rules in
    let least_fits : FitsSigned w64 c.args.self.least = search rules in
    let new_base_fits : FitsSigned w64 c.in_ok-base.base = search rules in
    let more_fits : FitsSigned w64 c.in_ok-more.more = search rules in
    let new_least_fits : FitsSigned w64 c.in_ok-least.least = search rules in
    let often_fits : FitsSigned w64 c.in_ok-often.often = search rules in
    let new_rate_fits : FitsSigned w64 c.in_ok-rate.rate = search rules in
    let base : c.in_ok-base.base ≡ c.args.self.base +ℤ p.range.high = omega (arith, ints, c.in_ok-base.ensures, base_fits, high_fits) in
    let more : c.in_ok-more.more ≡ a *ℤ p.fixed = product_is _ _ _ _ _ c.in_ok-more.ensures.1 (back _ rest_fits) (back _ fixed_fits) in
    let often : c.in_ok-often.often ≡ a *ℤ p.rate = product_is _ _ _ _ _ c.in_ok-often.ensures.1 (back _ rest_fits) (back _ rate_fits) in
    let least : c.in_ok-least.least ≡ c.args.self.least +ℤ c.in_ok-more.more = omega (arith, ints, c.in_ok-least.ensures, least_fits, more_fits) in
    let rate : c.in_ok-rate.rate ≡ neg_ℤ c.in_ok-often.often = omega (arith, ints, c.in_ok-rate.ensures, often_fits, new_rate_fits) in
    let e = c.in_ok-made.ensures in
    other T a c.args.self c.in_ok-made.made zs time p.fixed p.rate p.range.high y inside.below
    (e.0 ∙ back _ new_base_fits ∙ base)
    (e.1.0 ∙ back _ new_least_fits ∙ least ∙ ap (λ k. c.args.self.least +ℤ k) more)
    (e.1.1 zs ∙ ap (λ k. left c.args.self.terms.items zs +ℤ k *ℤ pos y) (back _ new_rate_fits ∙ rate ∙ ap neg_ℤ often))
    made
