-- Whole periods keep the cut.
use Rattle.std.proofs.Common.{◌≡◌, refl, ℤ, pos, ◌+ℤ◌, ◌-ℤ◌, ◌*ℤ◌, ◌≤ℤ◌, FitsSigned, to_z, of_z, w64, sym, ap, subst, ◌∙◌, arith, rules}
use Rattle.std.proofs.lemmas.Int.{ints}
use Rattle.pesp_search_cycles.specs.Ranges.{IsMultiple}
use Rattle.pesp_search_cycles.specs.Terms.{left}
use Rattle.pesp_search_cycles.proofs.Flipped.{keeps, product_is}
use Rattle.pesp_search_cycles.proofs.Numbers.{back}
use Rattle.pesp_search_cycles.proofs.flip.completed.Goals as goal

pub returns : goal.returns
returns c zs periods is_made =
    let made = c.args.made in
    let a = c.args.rest.rest in
    let P = c.args.rest.period in
    let whole : ℤ = c.in_ok-whole.whole in
    let rest_fits : FitsSigned w64 a = search rules in
    let base_fits : FitsSigned w64 made.base = search rules in
    let whole_fits : FitsSigned w64 whole = search rules in
    let first_fits : FitsSigned w64 c.in_ok-first.first = search rules in
    let product_fits : FitsSigned w64 c.in_ok-product.product = search rules in
    let made_fits : FitsSigned w64 made.least = search rules in
    let least_fits : FitsSigned w64 c.in_ok-least.least = search rules in
    let below_fits : FitsSigned w64 c.in_ok-below.below = search rules in
    let up : to_z w64 (of_z w64 c.from-period.result) ≡ pos P = omega (arith, ints, c.from-period.ensures) in
    let same : c.in_ok-below.below ≡ whole = omega (arith, ints, c.if-below-whole.false, below_fits, whole_fits) in
    let some : pos 0 ≤ℤ a = omega (arith, ints, c.if-rest-lt0.false, rest_fits) in
    let most : a ≤ℤ pos P = omega (arith, ints, c.if-rest-period.false, rest_fits, up) in
    let whole_is : whole ≡ made.base +ℤ a = omega (arith, ints, c.in_ok-whole.ensures, base_fits, rest_fits) in
    let first : c.in_ok-first.first ≡ pos P -ℤ whole = omega (arith, ints, c.in_ok-first.ensures, up, back _ whole_fits) in
    let product : c.in_ok-product.product ≡ a *ℤ c.in_ok-first.first = product_is _ _ _ _ _ c.in_ok-product.ensures.1 (back _ rest_fits) (back _ first_fits) in
    let least : c.in_ok-least.least ≡ made.least +ℤ c.in_ok-product.product = omega (arith, ints, c.in_ok-least.ensures, made_fits, product_fits) in
    let multiple : IsMultiple P whole = subst (IsMultiple P) same c.in_ok-below.ensures.whole in
    subst (λ l. l ≤ℤ left made.terms.items zs) (sym (back _ least_fits))
    (keeps P a made zs periods multiple.0 whole c.in_ok-least.least (pos P *ℤ periods) some most whole_is multiple.1
    (least ∙ ap (λ k. made.least +ℤ k) (product ∙ ap (λ k. a *ℤ k) first)) refl is_made)
