-- Found by search, and named so that a wrong body is refused here at once.
use Rattle.std.proofs.Common.{rules}
use Rattle.pesp_search.proofs.incumbent.Incumbent.keep.Goals as goal

pub returns-clause-times : goal.returns-clause-times
returns-clause-times c = search rules
