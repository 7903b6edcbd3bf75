-- Found by search, and named so that a wrong body is refused here at once.
use Rattle.std.proofs.Common.{rules}
use Rattle.pesp_domains.proofs.plain.make_room.Goals as goal

pub returns-clause-room : goal.returns-clause-room
returns-clause-room c = search rules
