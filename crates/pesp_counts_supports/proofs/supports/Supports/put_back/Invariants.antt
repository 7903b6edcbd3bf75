-- The pairs of the trail's end are back.
use Rattle.std.proofs.Common.{length}
use Rattle.pesp_counts_supports.proofs.Returned.{AreBack}
use Rattle.pesp_counts_supports.proofs.supports.Supports.put_back.Given as goal

abbrev pub invariant-loop-self : goal.invariant-loop-self
invariant-loop-self l = AreBack l.fn.links l.fn.mark l.fn.self l.self

abbrev pub decreases-loop-self : goal.decreases-loop-self
decreases-loop-self l = length l.self.trail
