-- The remainder is taken from it.
use Rattle.std.proofs.Common.{◌≡◌, FitsSigned, to_z, of_z, w64, pos, ap, ◌∙◌, arith, rules}
use Rattle.std.specs.Int.{int_rem_euclid}
use Rattle.std.proofs.lemmas.Int.{ints}
use Rattle.pesp_search_cycles.proofs.Halved.{down_to}
use Rattle.pesp_search_cycles.proofs.Numbers.{back}
use Rattle.pesp_search_cycles.proofs.range.whole_below.Goals as goal

pub returns-clause-whole : goal.returns-clause-whole
returns-clause-whole c =
    let fits : FitsSigned w64 c.rem_euclid.result = search rules in
    let at = to_z w64 (of_z w64 c.args.at) in
    let step : to_z w64 (of_z w64 c.from.result) ≡ pos c.args.step = omega (arith, ints, c.from.ensures, c.ranges.step) in
    down_to c.args.step at (to_z w64 (of_z w64 c.rem_euclid.result)) (to_z w64 (of_z w64 c.in_ok-whole.whole)) c.requires
    (back _ fits ∙ c.rem_euclid.ensures.value ∙ ap (int_rem_euclid at) step)
    (omega (arith, ints, c.in_ok-whole.ensures))
