-- Found by search, and named so that a wrong body is refused here at once.
use Rattle.std.proofs.Common.{rules}
use Rattle.pesp_search.proofs.member.times_the_events.Goals as goal

pub returns-clause-events : goal.returns-clause-events
returns-clause-events c = search rules
