-- Found by search, and named so that a wrong body is refused here at once.
use Rattle.std.proofs.Common.{rules}
use Rattle.pesp_shell_commands.proofs.numbers.Numbers.from_words.Goals as goal

pub returns-clause-place : goal.returns-clause-place
returns-clause-place c = search rules
