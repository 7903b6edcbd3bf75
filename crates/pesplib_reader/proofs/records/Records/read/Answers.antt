-- Found by search, and named so that a wrong body is refused here at once.
use Rattle.std.proofs.Common.{rules}
use Rattle.pesplib_reader.proofs.records.Records.read.Goals as goal

pub returns-clause-fault : goal.returns-clause-fault
returns-clause-fault c = search rules
