-- Found by search, and named so that a wrong body is refused here at once.
use Rattle.std.proofs.Common.{rules}
use Rattle.pesp_shell_commands.proofs.replaying.make_edit.Goals as goal

pub returns-in-Err-clause-ok : goal.returns-in-Err-clause-ok
returns-in-Err-clause-ok c = search rules
