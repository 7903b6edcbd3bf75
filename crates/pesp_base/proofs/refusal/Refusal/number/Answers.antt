-- Found by search, and named so that a wrong body is refused here at once.
use Rattle.std.proofs.Common.{rules}
use Rattle.pesp_base.proofs.refusal.Refusal.number.Goals as goal

pub returns-in-TooManyEvents : goal.returns-in-TooManyEvents
returns-in-TooManyEvents c = search rules
