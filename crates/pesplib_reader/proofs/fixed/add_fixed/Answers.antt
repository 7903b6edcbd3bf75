-- Found by search, and named so that a wrong body is refused here at once.
use Rattle.std.proofs.Common.{rules}
use Rattle.pesplib_reader.proofs.fixed.add_fixed.Goals as goal

pub returns-in-Ok-clause-ok : goal.returns-in-Ok-clause-ok
returns-in-Ok-clause-ok c = search rules

pub returns-in-Err-clause-fault : goal.returns-in-Err-clause-fault
returns-in-Err-clause-fault c = search rules
