-- With two events more there is still room.
use Rattle.std.proofs.Common.{◌≡◌, ◌∙◌, sym, ap, arith, rules}
use Rattle.pesp_base.specs.Limits.{max_events}
use Rattle.pesplib_reader.proofs.InstanceLemmas.{room_for_two}
use Rattle.pesplib_reader.proofs.activities.exceeds_with_ends.Goals as goal

pub returns-then-event_count-limit : goal.returns-then-event_count-limit
returns-then-event_count-limit c =
    let limit : c.max_events-limit.result ≡ max_events c.args.instance.now.period = c.max_events-limit.ensures.value ∙ ap max_events c.period.ensures.value in
    sym (room_for_two c.args.instance.now c.args.activity.now (omega arith))

-- by search, and named so that a wrong body is refused here at once
pub returns : goal.returns
returns c = search rules
