-- Found by search, and named so that a wrong body is refused here at once.
use Rattle.std.proofs.Common.{rules}
use Rattle.pesp_base.proofs.span.is_outside.Goals as goal

pub returns-else-bound-lt-LEAST_BOUND : goal.returns-else-bound-lt-LEAST_BOUND
returns-else-bound-lt-LEAST_BOUND c = search rules
