-- Term by term.
use Rattle.std.proofs.Common.{◌-ℤ◌, ◌*ℤ◌, pos, get_or, FitsSigned, to_z, of_z, w64, ap, refl, sym, ◌∙◌, arith, rules}
use Rattle.pesp_search_cycles.specs.Terms.{left, products}
use Rattle.pesp_search_cycles.proofs.Flipped.{product_is}
use Rattle.pesp_search_cycles.proofs.Numbers.{back}
use Rattle.pesp_search_cycles.proofs.Taken.{none_yet, termed, termed_all}
use Rattle.pesp_search_cycles.proofs.terms.take_terms.Goals as goal

pub loop-term-init : goal.loop-term-init
loop-term-init c = record { long = refl; taken = λ zs long. none_yet _ _ }

pub loop-term-preserved : goal.loop-term-preserved
loop-term-preserved c = record {
  long = c.in_ok-take_number.ensures.long ∙ c.loop-term.invariant.long;
  taken = λ zs long.
      let terms = c.args.terms.now in
      let i = c.loop-term.term-index in
      let fits : FitsSigned w64 c.in_ok-multiple.multiple = search rules in
      let term = get_or terms i (record { number = 0; rate = pos 0 }) in
      let rate_fits : FitsSigned w64 term.rate = search rules in
      termed terms zs i _ (to_z w64 (of_z w64 c.args.multiplier)) (to_z w64 (of_z w64 c.in_ok-multiple.multiple)) (products c.loop-term.rates zs) (products c.take_number.new.rates zs) _ (omega arith)
      (back _ fits ∙ product_is _ _ _ _ _ c.in_ok-multiple.ensures.1 refl (back _ rate_fits))
      (c.in_ok-take_number.ensures.taken zs (long ∙ sym c.loop-term.invariant.long))
      (c.loop-term.invariant.taken zs long);
}

pub returns-clause-taken : goal.returns-clause-taken
returns-clause-taken c zs long =
    termed_all c.args.terms.now zs c.loop-term.term-index (to_z w64 (of_z w64 c.args.multiplier)) _ _ (omega arith) (c.loop-term.invariant.taken zs long)
    ∙ ap (λ m. products c.args.rates.now zs -ℤ m *ℤ left c.args.terms.now zs) (back _ c.ranges.multiplier)
