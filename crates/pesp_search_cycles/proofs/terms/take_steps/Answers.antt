-- Step by step.
use Rattle.std.proofs.Common.{◌-ℤ◌, ◌*ℤ◌, FitsSigned, to_z, of_z, w64, ap, refl, sym, ◌∙◌, arith, rules}
use Rattle.pesp_search_cycles.specs.Terms.{value}
use Rattle.pesp_search_cycles.specs.Walks.{times}
use Rattle.pesp_search_cycles.proofs.Numbers.{back}
use Rattle.pesp_search_cycles.proofs.Taken.{none_yet, walked, walked_all}
use Rattle.pesp_search_cycles.proofs.terms.take_steps.Goals as goal

pub loop-step-init : goal.loop-step-init
loop-step-init c = record { long = refl; taken = λ zs long. none_yet _ _ }

pub loop-step-preserved : goal.loop-step-preserved
loop-step-preserved c = record {
  long = c.in_ok-less.ensures.long ∙ c.loop-step.invariant.long;
  taken = λ zs long.
      let fits : FitsSigned w64 c.in_ok-less.less = search rules in
      let rates = c.take_step.new.rates in
      walked c.args.arcs.now zs c.args.steps.now c.loop-step.step-index _ (to_z w64 (of_z w64 c.args.multiplier)) (value (to_z w64 c.loop-step.less-bits) c.loop-step.rates zs) (value (to_z w64 (of_z w64 c.in_ok-less.less)) rates zs) _ (omega arith)
      (ap (λ l. value l rates zs) (back _ fits) ∙ c.in_ok-less.ensures.taken zs (long ∙ sym c.loop-step.invariant.long))
      (c.loop-step.invariant.taken zs long);
}

pub returns-clause-taken : goal.returns-clause-taken
returns-clause-taken c zs long =
    walked_all c.args.arcs.now zs c.args.steps.now c.loop-step.step-index (to_z w64 (of_z w64 c.args.multiplier)) _ _ (omega arith) (c.loop-step.invariant.taken zs long)
    ∙ ap (λ s. value s c.args.rates.now zs -ℤ to_z w64 (of_z w64 c.args.multiplier) *ℤ times c.args.arcs.now zs c.args.steps.now) (back _ c.ranges.sum)
    ∙ ap (λ m. value c.args.sum c.args.rates.now zs -ℤ m *ℤ times c.args.arcs.now zs c.args.steps.now) (back _ c.ranges.multiplier)
