-- Found by search, and named so that a wrong body is refused here at once.
use Rattle.std.proofs.Common.{rules}
use Rattle.pesp_search.proofs.tree_search.is_reached.Goals as goal

pub returns-in-Some-clause-yes : goal.returns-in-Some-clause-yes
returns-in-Some-clause-yes c = search rules
