-- What the terms are at least is added, and then the terms are taken.
use Rattle.std.proofs.Common.{◌≡◌, ℤ, pos, ◌+ℤ◌, ◌-ℤ◌, ◌*ℤ◌, ◌≤ℤ◌, List, FitsSigned, w64, sym, ap, subst, ◌∙◌, arith, rules}
use Rattle.std.proofs.lemmas.Int.{ints}
use Rattle.pesp_search_cycles.specs.declared.flip.Part.{Part}
use Rattle.pesp_search_cycles.specs.Terms.{left, products}
use Rattle.pesp_search_cycles.proofs.Flipped.{product_is}
use Rattle.pesp_search_cycles.proofs.Numbers.{back}
use Rattle.pesp_search_cycles.proofs.Taken.{cut_taken}
use Rattle.pesp_search_cycles.proofs.terms.take_cut.Goals as goal

pub returns-clause-taken : goal.returns-clause-taken
returns-clause-taken c zs long kept =
    let m : ℤ = c.args.multiplier in
    let cut = c.args.cut.now in
    let old = products c.args.rates.now zs in
    let new = products c.take_terms.new.rates zs in
    let m_fits : FitsSigned w64 m = search rules in
    let least_fits : FitsSigned w64 cut.least = search rules in
    let product_fits : FitsSigned w64 c.in_ok-product.product = search rules in
    let more_fits : FitsSigned w64 c.in_ok-more.more = search rules in
    let product : c.in_ok-product.product ≡ m *ℤ cut.least = product_is _ _ _ _ _ c.in_ok-product.ensures.1 (back _ m_fits) (back _ least_fits) in
    let more : c.in_ok-more.more ≡ c.args.sum +ℤ c.in_ok-product.product = omega (arith, ints, c.in_ok-more.ensures, product_fits, c.ranges.sum) in
    let some : pos 0 ≤ℤ m = omega (arith, ints, c.if-multiplier-le0.false, m_fits) in
    let taken : new ≡ old -ℤ m *ℤ left cut.terms.items zs =
    c.in_ok-take_terms.ensures.taken zs long ∙ ap (λ k. old -ℤ k *ℤ left c.deref.result.now zs) (back _ m_fits) ∙ ap (λ (ts : List Part). old -ℤ m *ℤ left ts zs) c.deref.ensures.value in
    subst (λ s. (s +ℤ new) ≤ℤ (c.args.sum +ℤ old)) (sym (back _ more_fits))
    (cut_taken m c.args.sum c.in_ok-more.more c.in_ok-product.product old new (left cut.terms.items zs) cut.least some more product taken kept)
