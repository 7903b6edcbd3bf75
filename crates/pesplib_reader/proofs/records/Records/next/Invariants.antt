use Rattle.std.proofs.Common.{length}
use Rattle.pesplib_reader.specs.Left.{left_of}
use Rattle.pesplib_reader.proofs.LeftLemmas.{IsSkipped}
use Rattle.pesplib_reader.proofs.records.Records.next.Given as goal

-- no record so far was a row
abbrev pub invariant-records : goal.invariant-records
invariant-records l = IsSkipped l.initial.self l.self

abbrev pub decreases-records : goal.decreases-records
decreases-records l = length (left_of l.self.reader)
