-- Both parts are halves.
use Rattle.std.proofs.Common.{◌≡◌, ℕ, ◌+◌, ◌-◌, ◌/◌, ◌<◌, refl, arith}
use Rattle.pesp_tests_search.proofs.Lines.{line_halved, middle_within}
use Rattle.pesp_tests_search.proofs.least.line.LineRelaxation.split.Goals as goal

pub returns-then-self-middle : goal.returns-then-self-middle
returns-then-self-middle c =
    let l = c.args.self.now in
    let o = c.part-other.result in
    let middle : ℕ = l.lowest + (l.end - l.lowest) / 2 in
    let above : l.lowest < middle = c.if-self-middle.true in
    let below : middle < l.end = middle_within l.lowest l.end (omega (arith, c.if-self.false)) in
    let last : o.end ≡ middle = omega (arith, c.part-other.ensures.end, below, l.within) in
    record {
      split = (
        omega (arith, above, below),
        omega (arith, above, below, last, c.part-other.ensures.lowest),
        rw (c.part-other.ensures.costs, c.part-other.ensures.lowest) (line_halved l.costs l.lowest middle l.end o.end (omega (arith, above)) (omega (arith, below)) last),
      );
      base = refl;
      other = c.part-other.ensures.costs;
    }
