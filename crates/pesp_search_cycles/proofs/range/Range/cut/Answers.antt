-- Both halves are of the range.
use Rattle.std.proofs.Common.{FitsSigned, w64, arith, rules}
use Rattle.std.proofs.lemmas.Int.{ints}
use Rattle.pesp_search_cycles.proofs.Halved.{halved}
use Rattle.pesp_search_cycles.proofs.Numbers.{back}
use Rattle.pesp_search_cycles.proofs.range.Range.cut.Goals as goal

pub returns-clause-some : goal.returns-clause-some
returns-clause-some c =
    let low : FitsSigned w64 c.args.self.low = search rules in
    let high : FitsSigned w64 c.args.self.high = search rules in
    halved c.args.step c.args.self c.args.at c.args.next _ _ _ _ c.requires.some c.requires.at c.requires.next (omega (arith, ints)) (omega (arith, ints)) (back _ low) (back _ c.ranges.at) (back _ c.ranges.next) (back _ high)
