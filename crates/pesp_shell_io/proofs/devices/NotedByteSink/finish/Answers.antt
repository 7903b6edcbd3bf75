-- Found by search, and named so that a wrong body is refused here at once.
use Rattle.std.proofs.Common.{rules}
use Rattle.pesp_shell_io.proofs.devices.NotedByteSink.finish.Goals as goal

pub returns-then-is_err-clause-failure : goal.returns-then-is_err-clause-failure
returns-then-is_err-clause-failure g c = search rules

pub returns-clause-passed : goal.returns-clause-passed
returns-clause-passed g c = search rules
