-- Found by search, and named so that a wrong body is refused here at once.
use Rattle.std.proofs.Common.{rules}
use Rattle.pesplib_writer.proofs.text.put.Goals as goal

pub returns-clause-text : goal.returns-clause-text
returns-clause-text c = search rules
