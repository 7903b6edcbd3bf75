-- Found by search, and named so that a wrong body is refused here at once.
use Rattle.std.proofs.Common.{rules}
use Rattle.pesp_shell_replies.proofs.texts.put_violation.Goals as goal

pub returns-in-Event : goal.returns-in-Event
returns-in-Event c = search rules
