-- Found by search, and named so that a wrong body is refused here at once.
use Rattle.std.proofs.Common.{arith}
use Rattle.std.proofs.lemmas.Grind.{common_steps}
use Rattle.pesp_counts_arcs.proofs.links.Links.events_of.Goals as goal

pub returns-clause-from : goal.returns-clause-from
returns-clause-from c = grind (arith, common_steps)

pub returns-clause-to : goal.returns-clause-to
returns-clause-to c = grind (arith, common_steps)
