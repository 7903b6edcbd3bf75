-- The greater of the lower ends, and the less of the upper ones.
use Rattle.std.proofs.Common.{FitsSigned, w64, arith, rules}
use Rattle.std.proofs.lemmas.Int.{clamps, ints}
use Rattle.pesp_search_cycles.proofs.range.Range.both.Goals as goal

pub returns : goal.returns
returns c z =
    let low : FitsSigned w64 c.args.self.low = search rules in
    let high : FitsSigned w64 c.args.self.high = search rules in
    let least : FitsSigned w64 c.max.result = search rules in
    let most : FitsSigned w64 c.min.result = search rules in (
      λ i. (
        record { above = omega (arith, ints, clamps, i.above, c.max.ensures.value, low, least); below = omega (arith, ints, clamps, i.below, c.min.ensures.value, high, most) },
        record { above = omega (arith, ints, clamps, i.above, c.max.ensures.value, low, least); below = omega (arith, ints, clamps, i.below, c.min.ensures.value, high, most) },
      ),
      λ p. record { above = omega (arith, ints, clamps, p.0.above, p.1.above, c.max.ensures.value, low, least); below = omega (arith, ints, clamps, p.0.below, p.1.below, c.min.ensures.value, high, most) },
    )
