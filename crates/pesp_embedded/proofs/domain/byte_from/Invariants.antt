-- The byte has the tests so far.
use Rattle.std.proofs.Common.{◌≡◌}
use Rattle.pesp_embedded.specs.Bits.{bits_from}
use Rattle.pesp_embedded.proofs.domain.byte_from.Given as goal

abbrev pub invariant-loop-bit : goal.invariant-loop-bit
invariant-loop-bit l = l.byte ≡ bits_from l.row l.first l.bit
