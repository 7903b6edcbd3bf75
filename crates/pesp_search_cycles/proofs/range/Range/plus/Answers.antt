-- A sum is as wide as both together.
use Rattle.std.proofs.Common.{FitsSigned, to_z, of_z, w64, arith, rules}
use Rattle.std.proofs.lemmas.Int.{ints}
use Rattle.pesp_search_cycles.proofs.Widths.{width_sum}
use Rattle.pesp_search_cycles.proofs.range.Range.plus.Goals as goal

pub returns-clause-narrow : goal.returns-clause-narrow
returns-clause-narrow c =
    let low : FitsSigned w64 c.in_ok-low.low = search rules in
    let high : FitsSigned w64 c.in_ok-high.high = search rules in
    width_sum c.args.self c.args.other (to_z w64 (of_z w64 c.in_ok-low.low)) (to_z w64 (of_z w64 c.in_ok-high.high))
    (omega (arith, ints, low, c.in_ok-low.ensures)) (omega (arith, ints, high, c.in_ok-high.ensures))
