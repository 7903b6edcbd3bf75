-- Found by search, and named so that a wrong body is refused here at once.
use Rattle.std.proofs.Common.{rules}
use Rattle.pesp_domains.proofs.row.Row.put_in.Goals as goal

pub returns-clause-holds : goal.returns-clause-holds
returns-clause-holds c = search rules
