-- Found by search, and named so that a wrong body is refused here at once.
use Rattle.std.proofs.Common.{rules}
use Rattle.pesp_shell_replies.proofs.replying.reply_to_line.Goals as goal

pub returns-in-Ok-None-clause-legal : goal.returns-in-Ok-None-clause-legal
returns-in-Ok-None-clause-legal g c = search rules

pub returns-in-Ok-None-clause-silent : goal.returns-in-Ok-None-clause-silent
returns-in-Ok-None-clause-silent g c = search rules
