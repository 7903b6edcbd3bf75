-- Found by search, and named so that a wrong body is refused here at once.
use Rattle.std.proofs.Common.{rules, arith}
use Rattle.std.proofs.lemmas.Grind.{common_steps}
use Rattle.pesp_domains.proofs.plain.PlainKeeperKeeper.pop_fix.Goals as goal

pub invariant_of-self : goal.invariant_of-self
invariant_of-self c = grind (arith, common_steps)

pub returns-clause-pushes : goal.returns-clause-pushes
returns-clause-pushes c = search rules
