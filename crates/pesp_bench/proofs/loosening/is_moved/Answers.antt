-- Found by search, and named so that a wrong body is refused here at once.
use Rattle.std.proofs.Common.{rules}
use Rattle.pesp_bench.proofs.loosening.is_moved.Goals as goal

pub returns-then-lower : goal.returns-then-lower
returns-then-lower c = search rules

pub returns-else-lower : goal.returns-else-lower
returns-else-lower c = search rules
