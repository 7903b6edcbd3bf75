-- The file's name is in the text.
use Rattle.std.proofs.Common.{rules}
use Rattle.pesp_shell_main.proofs.fault.FaultDisplay.fmt.Goals as goal

pub returns-in-Unreadable-clause-writes : goal.returns-in-Unreadable-clause-writes
returns-in-Unreadable-clause-writes g c = rw c.in-Unreadable.is (rw (← c.name_of.ensures) (search rules))

pub returns-in-TooLong-clause-writes : goal.returns-in-TooLong-clause-writes
returns-in-TooLong-clause-writes g c = rw c.in-TooLong.is (rw (← c.name_of-in-TooLong.ensures) (search rules))
