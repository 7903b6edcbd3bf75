-- Want of memory is a fault, and all else is an error of the words.
use Rattle.std.proofs.Common.{rules}
use Rattle.pesp_shell_main.proofs.ending.EndingFromClapError.from.Goals as goal

pub returns-then-eq : goal.returns-then-eq
returns-then-eq c = search rules

pub returns-else-eq : goal.returns-else-eq
returns-else-eq c = search rules
