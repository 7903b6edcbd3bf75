-- Found by search, and named so that a wrong body is refused here at once.
use Rattle.std.proofs.Common.{rules}
use Rattle.pesp_search.proofs.parts.mark.Goals as goal

pub returns-else-index-label-clause-marked : goal.returns-else-index-label-clause-marked
returns-else-index-label-clause-marked c = search rules
