use Rattle.std.proofs.Common.{◌≤◌, length}
use Rattle.pesp_base.specs.Limits as limits
use Rattle.pesp_instance.specs.Edited.{empty_network}
use Rattle.pesplib_reader.specs.Left.{rows_left}
use Rattle.pesplib_reader.specs.Reading.{activity_faults_after, with_activity_row}
use Rattle.pesplib_reader.proofs.TakingLemmas.{IsReadTo}
use Rattle.pesplib_reader.proofs.activities.read_one_by_one.Given as goal

-- the rows so far stand for the instance so far
abbrev pub invariant-rows : goal.invariant-rows
invariant-rows l =
    IsReadTo activity_faults_after with_activity_row (empty_network l.fn.period) l.bytes l.instance l.records
    × (length l.instance.events ≤ limits.max_events l.instance.period)

abbrev pub decreases-rows : goal.decreases-rows
decreases-rows l = length (rows_left l.records)
