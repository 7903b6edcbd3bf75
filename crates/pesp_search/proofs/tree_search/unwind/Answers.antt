-- Found by search, and named so that a wrong body is refused here at once.
use Rattle.std.proofs.Common.{rules}
use Rattle.pesp_search.proofs.tree_search.unwind.Goals as goal

pub loop-pair-init : goal.loop-pair-init
loop-pair-init g c = search rules
