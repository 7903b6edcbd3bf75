-- The first residue is the sum less a period where that is reached, and the others follow it around the period.
use Rattle.std.proofs.Common.{◌+◌, inl, inr, arith}
use Rattle.pesp_counts_arcs.specs.Ends.{passes}
use Rattle.pesp_domains.proofs.Around.{far_either, lowered}
use Rattle.pesp_counts_arcs.proofs.end.End.ranges.Goals as goal
use Rattle.pesp_counts_arcs.proofs.end.End.ranges.Goals.{then-sum-period, else-sum-period}

pub returns-clause-passes : goal.returns-clause-passes
returns-clause-passes c s sl =
    let T = c.args.period in
    let sum = c.args.residue + c.args.self.now.first in
    let start = lowered T sum c.if-sum-period.start
    (elim c.if-sum-period.branch [
      | then-sum-period w ↦ inl (w.if-sum-period.true, w.start-is)
      | else-sum-period w ↦ inr (omega (arith, w.if-sum-period.false), w.start-is)
    ])
    (omega (arith, c.requires.residue, c.requires.first))
    in
    let far = far_either T c.if-sum-period.start s start.1 sl in
    let end = c.min-end.ensures in
    rw (passes, start.0) (grind (arith, far, end, start.1, sl, c.requires.width))
