-- Found by search, and named so that a wrong body is refused here at once.
use Rattle.std.proofs.Common.{rules}
use Rattle.pesp_instance.proofs.vertex.Vertex.new.Goals as goal

pub returns-clause-activities : goal.returns-clause-activities
returns-clause-activities c = search rules
