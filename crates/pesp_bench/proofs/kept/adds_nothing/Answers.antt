-- Found by search, and named so that a wrong body is refused here at once.
use Rattle.std.proofs.Common.{rules}
use Rattle.pesp_bench.proofs.kept.adds_nothing.Goals as goal

pub returns-then-is_met-clause-yes : goal.returns-then-is_met-clause-yes
returns-then-is_met-clause-yes c = search rules
