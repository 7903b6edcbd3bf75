-- Found by search, and named so that a wrong body is refused here at once.
use Rattle.std.proofs.Common.{rules}
use Rattle.pesp_search.proofs.steps.is_zero_enough.Goals as goal

pub returns-then-is_least : goal.returns-then-is_least
returns-then-is_least c = search rules
