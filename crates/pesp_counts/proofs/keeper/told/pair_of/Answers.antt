-- Found by search, and named so that a wrong body is refused here at once.
use Rattle.std.proofs.Common.{rules}
use Rattle.pesp_counts.proofs.keeper.told.pair_of.Goals as goal

pub returns : goal.returns
returns c = search rules
