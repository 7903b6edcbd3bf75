-- The product of this place is at least what was added for it.
use Rattle.std.proofs.Common.{ℤ, pos, get_or, FitsSigned, to_z, of_z, w64, ap, ◌∙◌, arith, rules}
use Rattle.std.proofs.lemmas.Int.{ints}
use Rattle.pesp_search_cycles.specs.Ranges.{least_product}
use Rattle.pesp_search_cycles.proofs.Numbers.{back}
use Rattle.pesp_search_cycles.proofs.Totals.{settle_more}
use Rattle.pesp_search_cycles.proofs.terms.settle.Goals as goal

pub loop-index-preserved : goal.loop-index-preserved
loop-index-preserved c ys all =
    let a = c.in_ok-least.ensures in
    let b = c.in_ok-least_product.ensures in
    let rate : ℤ = get_or c.args.rates.now c.loop-index.index (pos 0) in
    let rate_fits : FitsSigned w64 rate = search rules in
    let fits : FitsSigned w64 c.in_ok-least_product.field-0 = search rules in
    settle_more _ c.args.rates.now c.args.ranges.now ys c.loop-index.index _ _ (to_z w64 (of_z w64 c.in_ok-least_product.field-0)) _ (omega arith) c.requires all (omega (arith, ints, a))
    (back _ fits ∙ b ∙ ap (λ r. least_product r (get_or c.args.ranges.now c.loop-index.index (record { low = pos 0; high = pos 0 }))) (back rate rate_fits))
    (c.loop-index.invariant ys all)
