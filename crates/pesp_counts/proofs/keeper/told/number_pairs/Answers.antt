-- Found by search, and named so that a wrong body is refused here at once.
use Rattle.std.proofs.Common.{rules}
use Rattle.pesp_counts.proofs.keeper.told.number_pairs.Goals as goal

pub loop-placed-init : goal.loop-placed-init
loop-placed-init c = search rules
