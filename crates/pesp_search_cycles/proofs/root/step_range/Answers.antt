-- A step is as wide as its slacks, whichever way it goes.
use Rattle.std.proofs.Common.{ℕ, pos, ◌+ℤ◌, to_z, of_z, w64, arith, rules}
use Rattle.std.proofs.lemmas.Option.{IfSome_then}
use Rattle.pesp_search_cycles.specs.Ranges.{IsIn, width}
use Rattle.pesp_search_cycles.proofs.Widths.{beside_one}
use Rattle.pesp_search_cycles.proofs.root.step_range.Goals as goal

pub returns-then-along-clause-narrow : goal.returns-then-along-clause-narrow
returns-then-along-clause-narrow c = beside_one (to_z w64 (of_z w64 c.from-lower.result)) c.args.slacks (width c.in_ok-range.range) c.in_ok-range.ensures.narrow

pub returns-else-along-clause-inside : goal.returns-else-along-clause-inside
returns-else-along-clause-inside c =
    let along : (y : ℕ) → IsIn c.args.slacks (pos y) → IsIn c.in_ok-range.range (c.args.arc.now.span.lower +ℤ pos y) = search rules in
    rw c.if-along.false (IfSome_then c.negated.result c.negated.ensures.inside (λ range is y i. is _ (along y i)))

pub returns-else-along-clause-narrow : goal.returns-else-along-clause-narrow
returns-else-along-clause-narrow c =
    IfSome_then c.negated.result c.negated.ensures.narrow (λ range is. omega (arith, is, beside_one (to_z w64 (of_z w64 c.from-lower.result)) c.args.slacks (width c.in_ok-range.range) c.in_ok-range.ensures.narrow))
