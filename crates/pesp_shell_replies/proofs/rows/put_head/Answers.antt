-- Found by search, and named so that a wrong body is refused here at once.
use Rattle.std.proofs.Common.{arith}
use Rattle.std.proofs.lemmas.Grind.{common_steps}
use Rattle.pesp_shell_replies.proofs.rows.put_head.Goals as goal

pub returns : goal.returns
returns c = grind (arith, common_steps)
