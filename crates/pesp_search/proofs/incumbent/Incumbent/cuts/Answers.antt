-- Found by search, and named so that a wrong body is refused here at once.
use Rattle.std.proofs.Common.{rules}
use Rattle.pesp_search.proofs.incumbent.Incumbent.cuts.Goals as goal

pub returns-in_default-Some : goal.returns-in_default-Some
returns-in_default-Some c = search rules

pub returns-in-Some-None : goal.returns-in-Some-None
returns-in-Some-None c = search rules
