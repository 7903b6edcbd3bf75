-- Found by search, and named so that a wrong body is refused here at once.
use Rattle.std.proofs.Common.{rules}
use Rattle.pesplib_reader.proofs.records.reader.Goals as goal

pub returns-clause-plain : goal.returns-clause-plain
returns-clause-plain c = search rules

pub returns-clause-headers : goal.returns-clause-headers
returns-clause-headers c = search rules

pub returns-clause-config : goal.returns-clause-config
returns-clause-config c = search rules

pub returns-clause-flexible : goal.returns-clause-flexible
returns-clause-flexible c = search rules
