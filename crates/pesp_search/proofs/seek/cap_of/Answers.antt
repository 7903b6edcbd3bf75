-- Found by search, and named so that a wrong body is refused here at once.
use Rattle.std.proofs.Common.{rules}
use Rattle.pesp_search.proofs.seek.cap_of.Goals as goal

pub returns-in-Some : goal.returns-in-Some
returns-in-Some c = search rules
