-- Found by search, and named so that a wrong body is refused here at once.
use Rattle.std.proofs.Common.{rules}
use Rattle.pesp_tension.proofs.assessment.add_activity.Goals as goal

pub returns-clause-violations : goal.returns-clause-violations
returns-clause-violations c = search rules
