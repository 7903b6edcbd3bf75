-- Where the events are timed, none is missing; and a timetable's times are below its period.
use Rattle.std.proofs.Common.{◌≡◌, rules, All, subst, ◌<◌}
use Rattle.std.specs.Map.{values_of}
use Rattle.pesp_tension.specs.Timetables.{timed_events}
use Rattle.pesp_instance.specs.Network.{event_ids}
use Rattle.pesp_search.proofs.Costed.{costs_so, not_without_cost}
use Rattle.pesp_search.proofs.member.member_cost.Goals as goal

pub returns-in_default-clause-none : goal.returns-in_default-clause-none
returns-in_default-clause-none c = λ member. not_without_cost c.args.instance.now c.args.timetable.now c.cost.result c.in_default.field-0 member.events c.cost.ensures c.in_default.is

pub returns-then-agrees_with_all-clause-member : goal.returns-then-agrees_with_all-clause-member
returns-then-agrees_with_all-clause-member c =
    let same : c.args.timetable.now.period ≡ c.args.instance.now.period = search rules in
    let events : timed_events c.args.timetable.now ≡ event_ids c.args.instance.now = c.times_the_events.ensures.events.0 c.if-not-times_the_events.false in (
      record {
        period = same;
        events = events;
        below = subst (λ T. All (λ t. t < T) (values_of c.args.timetable.now.entries)) same c.times_the_events.ensures.within.times;
        met = c.meets_all.ensures.0 c.if-meets_all.true;
        window = c.agrees_with_all.ensures.0 c.if-agrees_with_all.true;
      },
      costs_so c.args.instance.now c.args.timetable.now c.cost.result c.in-Ok.cost events c.cost.ensures c.in-Ok.is,
    )
