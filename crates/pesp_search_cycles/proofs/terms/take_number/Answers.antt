-- One rate less.
use Rattle.std.proofs.Common.{pos, get_or, FitsSigned, to_z, of_z, w64, arith, rules}
use Rattle.std.proofs.lemmas.Int.{ints}
use Rattle.pesp_search_cycles.proofs.Taken.{number_taken}
use Rattle.pesp_search_cycles.proofs.terms.take_number.Goals as goal

pub returns-clause-taken : goal.returns-clause-taken
returns-clause-taken c zs long =
    let rate_fits : FitsSigned w64 (get_or c.args.rates.now c.args.index (pos 0)) = search rules in
    number_taken c.args.rates.now zs c.args.index c.args.multiplier (to_z w64 (of_z w64 c.in_ok-rates.field-0)) c.requires long
    (omega (arith, ints, c.in_ok-rates.ensures, rate_fits, c.ranges.multiplier))
