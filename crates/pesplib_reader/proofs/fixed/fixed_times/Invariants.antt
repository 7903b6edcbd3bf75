use Rattle.std.proofs.Common.{length}
use Rattle.pesp_tension.specs.Timetables.{no_times}
use Rattle.pesplib_reader.specs.Left.{rows_left}
use Rattle.pesplib_reader.specs.Reading.{fixed_faults_after, with_time_row}
use Rattle.pesplib_reader.proofs.TakingLemmas.{IsReadTo}
use Rattle.pesplib_reader.proofs.fixed.fixed_times.Given as goal

-- the rows so far stand for the fixed times so far
abbrev pub invariant-rows : goal.invariant-rows
invariant-rows l = IsReadTo (fixed_faults_after l.instance) with_time_row (no_times l.instance.period) l.bytes l.times l.records

abbrev pub decreases-rows : goal.decreases-rows
decreases-rows l = length (rows_left l.records)
