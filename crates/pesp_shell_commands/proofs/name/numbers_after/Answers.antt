-- Found by search, and named so that a wrong body is refused here at once.
use Rattle.std.proofs.Common.{rules}
use Rattle.pesp_shell_commands.proofs.name.numbers_after.Goals as goal

pub returns-then-begin_with-clause-begins : goal.returns-then-begin_with-clause-begins
returns-then-begin_with-clause-begins c = search rules

pub returns-else-begin_with-clause-begins : goal.returns-else-begin_with-clause-begins
returns-else-begin_with-clause-begins c = search rules
