-- Found by search, and named so that a wrong body is refused here at once.
use Rattle.std.proofs.Common.{arith}
use Rattle.std.proofs.lemmas.Grind.{common_steps}
use Rattle.pesp_domains.proofs.row.Row.keep_only.Goals as goal

pub returns-then-stays-clause-holds : goal.returns-then-stays-clause-holds
returns-then-stays-clause-holds c = grind (arith, common_steps)
