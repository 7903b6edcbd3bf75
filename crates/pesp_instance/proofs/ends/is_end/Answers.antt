-- Found by search, and named so that a wrong body is refused here at once.
use Rattle.std.proofs.Common.{rules}
use Rattle.pesp_instance.proofs.ends.is_end.Goals as goal

pub returns-then-eq : goal.returns-then-eq
returns-then-eq c = search rules

pub returns-else-eq : goal.returns-else-eq
returns-else-eq c = search rules
