-- Found by search, and named so that a wrong body is refused here at once.
use Rattle.std.proofs.Common.{rules}
use Rattle.pesp_tension.proofs.look_up.place_by_number.Goals as goal

pub returns-then-found-get : goal.returns-then-found-get
returns-then-found-get c = search rules
