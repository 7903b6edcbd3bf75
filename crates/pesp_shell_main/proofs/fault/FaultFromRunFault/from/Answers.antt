-- Want of memory keeps its line.
use Rattle.std.proofs.Common.{rules}
use Rattle.pesp_shell_main.proofs.fault.FaultFromRunFault.from.Goals as goal

pub returns-in-Memory : goal.returns-in-Memory
returns-in-Memory c = search rules
