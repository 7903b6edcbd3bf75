-- Found by search, and named so that a wrong body is refused here at once.
use Rattle.std.proofs.Common.{rules}
use Rattle.pesplib_reader.proofs.rows.TimeRow.event_and_time.Goals as goal

pub returns-in_err-time : goal.returns-in_err-time
returns-in_err-time c = search rules

pub returns : goal.returns
returns c = search rules
