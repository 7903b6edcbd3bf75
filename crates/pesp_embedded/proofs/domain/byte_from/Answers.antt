-- One test more, at the next bit.
use Rattle.std.proofs.Common.{sym, ◌∙◌}
use Rattle.pesp_embedded.proofs.Bits.{bit_left, bit_put}
use Rattle.pesp_embedded.proofs.domain.byte_from.Goals as goal
use Rattle.pesp_embedded.proofs.domain.byte_from.Goals.{then-holds, else-holds}

pub loop-bit-preserved : goal.loop-bit-preserved
loop-bit-preserved c = elim c.if-holds.branch [
  | then-holds w ↦ bit_put c.args.row.now c.args.first c.loop-bit.bit c.loop-bit.byte c.if-holds.byte c.loop-bit.invariant (sym c.holds.ensures ∙ w.if-holds.true) c.loop-bit-test.true w.byte-is
  | else-holds w ↦ bit_left c.args.row.now c.args.first c.loop-bit.bit c.loop-bit.byte c.if-holds.byte c.loop-bit.invariant (sym c.holds.ensures ∙ w.if-holds.false) w.byte-is
]
