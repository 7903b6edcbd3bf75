-- Found by search, and named so that a wrong body is refused here at once.
use Rattle.std.proofs.Common.{rules}
use Rattle.pesp_instance.proofs.ends.Table+Vertex.unlink.Goals as goal

pub returns-clause-listed : goal.returns-clause-listed
returns-clause-listed c = search rules
