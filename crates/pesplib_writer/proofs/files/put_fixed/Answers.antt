-- Found by search, and named so that a wrong body is refused here at once.
use Rattle.std.proofs.Common.{arith}
use Rattle.std.proofs.lemmas.Grind.{common_steps}
use Rattle.pesplib_writer.proofs.files.put_fixed.Goals as goal

pub loop-event-preserved-in-Continue-1 : goal.loop-event-preserved-in-Continue-1
loop-event-preserved-in-Continue-1 c = grind (arith, common_steps)
