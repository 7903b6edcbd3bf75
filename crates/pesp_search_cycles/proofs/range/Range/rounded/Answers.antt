-- No whole number of steps is between the ends before and after.
use Rattle.std.proofs.Common.{FitsSigned, to_z, of_z, w64, sym, subst, arith, rules}
use Rattle.std.proofs.lemmas.Int.{ints}
use Rattle.pesp_search_cycles.specs.Ranges.{IsMultiple}
use Rattle.pesp_search_cycles.proofs.Halved.{rounded_in}
use Rattle.pesp_search_cycles.proofs.Numbers.{back}
use Rattle.pesp_search_cycles.proofs.Widths.{width_within}
use Rattle.pesp_search_cycles.proofs.range.Range.rounded.Goals as goal

pub returns-clause-inside : goal.returns-clause-inside
returns-clause-inside c z m i =
    let low : FitsSigned w64 c.in_ok-low.low = search rules in
    let high : FitsSigned w64 c.in_ok-high.high = search rules in
    let self_low : FitsSigned w64 c.args.self.low = search rules in
    let self_high : FitsSigned w64 c.args.self.high = search rules in
    rounded_in c.args.step c.args.self (record { low = to_z w64 (of_z w64 c.in_ok-low.low); high = to_z w64 (of_z w64 c.in_ok-high.high) }) z
    (subst (IsMultiple c.args.step) (sym (back _ low)) c.in_ok-low.ensures.whole)
    (subst (IsMultiple c.args.step) (sym (back _ high)) c.in_ok-high.ensures.whole)
    (omega (arith, ints, low, self_low, c.in_ok-low.ensures.below, c.in_ok-checked_add.ensures, c.from.ensures, c.ranges.step))
    (omega (arith, ints, high, self_high, c.in_ok-high.ensures.near)) m i

pub returns-clause-narrow : goal.returns-clause-narrow
returns-clause-narrow c =
    let low : FitsSigned w64 c.in_ok-low.low = search rules in
    let high : FitsSigned w64 c.in_ok-high.high = search rules in
    let self_low : FitsSigned w64 c.args.self.low = search rules in
    let self_high : FitsSigned w64 c.args.self.high = search rules in
    width_within c.args.self (to_z w64 (of_z w64 c.in_ok-low.low)) (to_z w64 (of_z w64 c.in_ok-high.high))
    (omega (arith, ints, low, self_low, c.in_ok-low.ensures.near, c.in_ok-checked_add.ensures, c.from.ensures, c.ranges.step))
    (omega (arith, ints, high, self_high, c.in_ok-high.ensures.below))
