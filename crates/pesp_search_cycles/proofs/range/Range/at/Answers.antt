-- Both ends are moved to the residue.
use Rattle.std.proofs.Common.{FitsSigned, w64, arith, rules}
use Rattle.std.proofs.lemmas.Int.{clamps, ints}
use Rattle.pesp_search_cycles.proofs.range.Range.at.Goals as goal

pub returns : goal.returns
returns c x =
    let low : FitsSigned w64 c.args.self.low = search rules in
    let high : FitsSigned w64 c.args.self.high = search rules in
    let least : FitsSigned w64 c.max.result = search rules in
    let most : FitsSigned w64 c.min.result = search rules in (
      λ i. (
        record { above = omega (arith, ints, clamps, i.above, i.below, c.max.ensures.value, c.min.ensures.value, c.from.ensures, c.from-2.ensures, low, high, least, most, c.ranges.residue); below = omega (arith, ints, clamps, i.above, i.below, c.max.ensures.value, c.min.ensures.value, c.from.ensures, c.from-2.ensures, low, high, least, most, c.ranges.residue) },
        omega (arith, ints, clamps, i.above, i.below, c.max.ensures.value, c.min.ensures.value, c.from.ensures, c.from-2.ensures, low, high, least, most, c.ranges.residue),
      ),
      λ p. record { above = omega (arith, ints, clamps, p.0.above, p.0.below, p.1, c.max.ensures.value, c.min.ensures.value, c.from.ensures, c.from-2.ensures, low, high, least, most, c.ranges.residue); below = omega (arith, ints, clamps, p.0.above, p.0.below, p.1, c.max.ensures.value, c.min.ensures.value, c.from.ensures, c.from-2.ensures, low, high, least, most, c.ranges.residue) },
    )
