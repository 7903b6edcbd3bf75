-- Found by search, and named so that a wrong body is refused here at once.
use Rattle.std.proofs.Common.{rules}
use Rattle.pesp_domains.proofs.reach.width_of.Goals as goal

pub returns-clause-value : goal.returns-clause-value
returns-clause-value c = search rules
