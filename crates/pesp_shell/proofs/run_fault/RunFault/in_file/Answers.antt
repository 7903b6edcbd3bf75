-- The fault has the file and its fault.
use Rattle.std.proofs.Common.{refl}
use Rattle.pesp_shell.proofs.run_fault.RunFault.in_file.Goals as goal

pub returns : goal.returns
returns c = refl
