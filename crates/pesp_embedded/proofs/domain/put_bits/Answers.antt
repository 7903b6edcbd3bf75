-- One byte more, until there are all or the room is full.
use Rattle.std.proofs.Common.{arith}
use Rattle.pesp_embedded.proofs.Bits.{byte_put, bytes_put}
use Rattle.pesp_embedded.proofs.domain.put_bits.Goals as goal

pub loop-place-preserved : goal.loop-place-preserved
loop-place-preserved c =
    byte_put c.args.row.now c.loop-place.place c.byte_from.result c.args.room.now c.loop-place.room c.loop-place.invariant
    (omega (arith, c.loop-place-test.true, c.min-place-end.ensures)) c.byte_from.ensures

pub returns-clause-room : goal.returns-clause-room
returns-clause-room c =
    bytes_put c.args.row.now c.loop-place.place c.from-count.result c.args.room.now c.loop-place.room c.loop-place.invariant
    (omega (arith, c.loop-place-test.false, c.loop-place.auto.place-end, c.min-place-end.ensures))
