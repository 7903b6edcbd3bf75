-- Found by search, and named so that a wrong body is refused here at once.
use Rattle.std.proofs.Common.{arith}
use Rattle.std.proofs.lemmas.Grind.{common_steps}
use Rattle.std.proofs.lemmas.Grind.{common_steps}
use Rattle.pesplib_writer.proofs.text.put_between.Goals as goal

pub returns-clause-text : goal.returns-clause-text
returns-clause-text c = grind (arith, common_steps)

pub returns-clause-full : goal.returns-clause-full
returns-clause-full c = grind (arith, common_steps)
