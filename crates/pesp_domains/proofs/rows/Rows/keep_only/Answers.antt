-- Found by search, and named so that a wrong body is refused here at once.
use Rattle.std.proofs.Common.{rules}
use Rattle.pesp_domains.proofs.rows.Rows.keep_only.Goals as goal

pub returns-clause-has : goal.returns-clause-has
returns-clause-has c = search rules
