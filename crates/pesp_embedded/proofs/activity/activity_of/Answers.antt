-- A number above the limit is no activity of an instance.
use Rattle.pesp_embedded.proofs.Members.{no_activity_number}
use Rattle.pesp_embedded.proofs.activity.activity_of.Goals as goal

pub returns-clause-none : goal.returns-clause-none
returns-clause-none c = no_activity_number c.args.instance.now c.args.number c.new.result c.period-period.ensures.network c.new.ensures
