-- A number above the limit is no event of an instance.
use Rattle.pesp_embedded.proofs.Members.{no_event_number}
use Rattle.pesp_embedded.proofs.event.event_of.Goals as goal

pub returns-clause-none : goal.returns-clause-none
returns-clause-none c = no_event_number c.args.instance.now c.args.number c.new.result c.period-period.ensures.network c.new.ensures
