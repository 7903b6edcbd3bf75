-- Found by search, and named so that a wrong body is refused here at once.
use Rattle.std.proofs.Common.{rules}
use Rattle.pesplib_reader.proofs.records.Records.is_row.Goals as goal

pub returns-clause-row : goal.returns-clause-row
returns-clause-row c = search rules
