use Rattle.std.proofs.Common.{◌≡◌, length}
use Rattle.pesplib_reader.specs.Records.{trim_start}
use Rattle.pesplib_reader.proofs.trim.trim_start.Given as goal

-- what was left out so far is left out of the whole text
abbrev pub invariant-loop-rest : goal.invariant-loop-rest
invariant-loop-rest l = trim_start l.rest ≡ trim_start l.text

abbrev pub decreases-loop-rest : goal.decreases-loop-rest
decreases-loop-rest l = length l.rest
