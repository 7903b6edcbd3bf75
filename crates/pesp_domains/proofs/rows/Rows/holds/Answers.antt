-- Found by search, and named so that a wrong body is refused here at once.
use Rattle.std.proofs.Common.{rules}
use Rattle.pesp_domains.proofs.rows.Rows.holds.Goals as goal

pub returns-in-None : goal.returns-in-None
returns-in-None c = search rules
