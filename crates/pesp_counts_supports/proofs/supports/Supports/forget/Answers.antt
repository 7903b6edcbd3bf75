-- Found by search, and named so that a wrong body is refused here at once.
use Rattle.std.proofs.Common.{rules}
use Rattle.pesp_counts_supports.proofs.supports.Supports.forget.Goals as goal

pub returns-clause-trail : goal.returns-clause-trail
returns-clause-trail c = search rules

pub returns-clause-probes : goal.returns-clause-probes
returns-clause-probes c = search rules
