-- Found by search, and named so that a wrong body is refused here at once.
use Rattle.std.proofs.Common.{rules}
use Rattle.pesplib_writer.proofs.text.put_number.Goals as goal

pub returns-clause-text : goal.returns-clause-text
returns-clause-text c = search rules

pub returns-clause-full : goal.returns-clause-full
returns-clause-full c = search rules
