-- The bytes so far are in front of the room.
use Rattle.std.proofs.Common.{◌≡◌}
use Rattle.pesp_embedded.specs.Answered.{fronted}
use Rattle.pesp_embedded.specs.Bits.{bytes_in}
use Rattle.pesp_embedded.proofs.domain.put_bits.Given as goal

abbrev pub invariant-loop-place : goal.invariant-loop-place
invariant-loop-place l = l.room ≡ fronted (bytes_in l.row l.place) l.initial.room
