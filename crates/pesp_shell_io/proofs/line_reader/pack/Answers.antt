-- Found by search, and named so that a wrong body is refused here at once.
use Rattle.std.proofs.Common.{arith}
use Rattle.std.proofs.lemmas.Grind.{common_steps}
use Rattle.pesp_shell_io.proofs.line_reader.pack.Goals as goal

pub returns-clause-front : goal.returns-clause-front
returns-clause-front c = grind (arith, common_steps)
