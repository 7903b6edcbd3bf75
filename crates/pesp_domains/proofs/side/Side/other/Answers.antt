-- Found by search, and named so that a wrong body is refused here at once.
use Rattle.std.proofs.Common.{rules}
use Rattle.pesp_domains.proofs.side.Side.other.Goals as goal

pub returns-in-Head : goal.returns-in-Head
returns-in-Head c = search rules
