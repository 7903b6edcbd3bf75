-- Found by search, and named so that a wrong body is refused here at once.
use Rattle.std.proofs.Common.{rules, arith}
use Rattle.std.proofs.lemmas.Grind.{common_steps}
use Rattle.std.proofs.lemmas.Grind.{common_steps}
use Rattle.std.proofs.lemmas.Grind.{common_steps}
use Rattle.pesp_shell_commands.proofs.replaying.take_line.Goals as goal

pub returns-in-Ok-None-clause-fault : goal.returns-in-Ok-None-clause-fault
returns-in-Ok-None-clause-fault c = search rules

pub returns-in-Ok-None-clause-ok : goal.returns-in-Ok-None-clause-ok
returns-in-Ok-None-clause-ok c = search rules

pub returns-in-Ok-Some-Edit-clause-ok : goal.returns-in-Ok-Some-Edit-clause-ok
returns-in-Ok-Some-Edit-clause-ok c = grind (arith, common_steps)

pub returns-in-Ok-Some-Edit-clause-fault : goal.returns-in-Ok-Some-Edit-clause-fault
returns-in-Ok-Some-Edit-clause-fault c = grind (arith, common_steps)

pub returns-in-Ok-Some : goal.returns-in-Ok-Some
returns-in-Ok-Some c = grind (arith, common_steps)

pub returns-in-Err-clause-fault : goal.returns-in-Err-clause-fault
returns-in-Err-clause-fault c = search rules

pub returns-then-line-gt-LONGEST_LINE-clause-fault : goal.returns-then-line-gt-LONGEST_LINE-clause-fault
returns-then-line-gt-LONGEST_LINE-clause-fault c = search rules
