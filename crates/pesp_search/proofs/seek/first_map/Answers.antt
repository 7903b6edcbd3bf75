-- Found by search, and named so that a wrong body is refused here at once.
use Rattle.std.proofs.Common.{rules}
use Rattle.pesp_search.proofs.seek.first_map.Goals as goal

pub returns-clause-best : goal.returns-clause-best
returns-clause-best c = search rules
