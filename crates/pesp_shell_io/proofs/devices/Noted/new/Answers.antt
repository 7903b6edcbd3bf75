-- Found by search, and named so that a wrong body is refused here at once.
use Rattle.std.proofs.Common.{rules}
use Rattle.pesp_shell_io.proofs.devices.Noted.new.Goals as goal

pub returns-clause-end : goal.returns-clause-end
returns-clause-end g c = search rules

pub returns-clause-failed : goal.returns-clause-failed
returns-clause-failed g c = search rules

pub returns-clause-passed_on : goal.returns-clause-passed_on
returns-clause-passed_on g c = search rules
