-- All other faults are of a file that cannot be read.
use Rattle.std.proofs.Common.{rules}
use Rattle.pesp_shell_main.proofs.files.fault_of.Goals as goal

pub returns-else-eq : goal.returns-else-eq
returns-else-eq c = search rules
