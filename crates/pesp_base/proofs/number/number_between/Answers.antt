-- Found by search, and named so that a wrong body is refused here at once.
use Rattle.std.proofs.Common.{rules, arith}
use Rattle.std.proofs.lemmas.Grind.{common_steps}
use Rattle.pesp_base.proofs.number.number_between.Goals as goal

pub returns-then-number-low-clause-number : goal.returns-then-number-low-clause-number
returns-then-number-low-clause-number c = search rules

pub returns-clause-number : goal.returns-clause-number
returns-clause-number c = grind (arith, common_steps)
