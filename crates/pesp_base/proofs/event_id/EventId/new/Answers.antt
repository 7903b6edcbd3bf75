-- Found by search, and named so that a wrong body is refused here at once.
use Rattle.std.proofs.Common.{rules}
use Rattle.pesp_base.proofs.event_id.EventId.new.Goals as goal

pub returns-else-value-le-GREATEST_NUMBER : goal.returns-else-value-le-GREATEST_NUMBER
returns-else-value-le-GREATEST_NUMBER c = search rules
