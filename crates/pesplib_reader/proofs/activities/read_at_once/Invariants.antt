use Rattle.std.proofs.Common.{◌≡◌, ◌++◌, List, length}
use Rattle.pesplib_reader.specs.Left.{IsReading, count_of, rows_left}
use Rattle.pesplib_reader.specs.Records.{Row, records_of, rows_of}
use Rattle.pesplib_reader.proofs.GatheredLemmas.{IsGathered}
use Rattle.pesplib_reader.proofs.activities.read_at_once.Given as goal

-- the activities of the rows so far are gathered, and their ends are the events
abbrev pub invariant-rows : goal.invariant-rows
invariant-rows l =
    IsReading l.records × (count_of l.records ≡ length (records_of l.bytes))
    × (front : List Row) × (front ++ rows_left l.records ≡ rows_of l.bytes) × IsGathered l.fn.period front l.activities.items l.instance

abbrev pub decreases-rows : goal.decreases-rows
decreases-rows l = length (rows_left l.records)
