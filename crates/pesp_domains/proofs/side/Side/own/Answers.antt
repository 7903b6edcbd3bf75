-- Found by search, and named so that a wrong body is refused here at once.
use Rattle.std.proofs.Common.{rules}
use Rattle.pesp_domains.proofs.side.Side.own.Goals as goal

pub returns-in-Tail : goal.returns-in-Tail
returns-in-Tail c = search rules
