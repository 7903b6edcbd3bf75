-- Found by search, and named so that a wrong body is refused here at once.
use Rattle.std.proofs.Common.{arith}
use Rattle.std.proofs.lemmas.Grind.{common_steps}
use Rattle.pesp_counts_supports.proofs.supports.Supports.holds.Goals as goal

pub returns-then-place-len : goal.returns-then-place-len
returns-then-place-len c = grind (arith, common_steps)
