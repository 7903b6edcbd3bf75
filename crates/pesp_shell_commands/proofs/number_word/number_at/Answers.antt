-- Found by search, and named so that a wrong body is refused here at once.
use Rattle.std.proofs.Common.{rules}
use Rattle.pesp_shell_commands.proofs.number_word.number_at.Goals as goal

pub returns-in-Err-NotANumber-clause-fault : goal.returns-in-Err-NotANumber-clause-fault
returns-in-Err-NotANumber-clause-fault c = search rules
