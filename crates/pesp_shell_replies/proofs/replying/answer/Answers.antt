-- Found by search, and named so that a wrong body is refused here at once.
use Rattle.std.proofs.Common.{rules}
use Rattle.pesp_shell_replies.proofs.replying.answer.Goals as goal

pub returns-in-Optimum-clause-legal : goal.returns-in-Optimum-clause-legal
returns-in-Optimum-clause-legal g c = search rules
