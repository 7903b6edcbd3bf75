-- Found by search, and named so that a wrong body is refused here at once.
use Rattle.std.proofs.Common.{rules}
use Rattle.pesp_shell_io.proofs.devices.NotedByteSource.take.Goals as goal

pub returns-then-has_room-clause-end : goal.returns-then-has_room-clause-end
returns-then-has_room-clause-end g c = search rules

pub returns-in-Err-clause-failure : goal.returns-in-Err-clause-failure
returns-in-Err-clause-failure g c = search rules
