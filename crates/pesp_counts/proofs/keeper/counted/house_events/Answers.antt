-- An event more has its place.
use Rattle.std.proofs.Common.{◌∷◌, ◌++◌, [], ◌∙◌, append_assoc}
use Rattle.pesp_instance.specs.Network.{Network}
use Rattle.pesp_counts.proofs.Housed.{event_absent, for_event, for_roomier}
use Rattle.pesp_counts.proofs.keeper.counted.house_events.Goals as goal

pub loop-event-init : goal.loop-event-init
loop-event-init c =
    let I : Network = record { period = c.args.instance.now.period; events = []; activities = [] } in
    let rows = c.make_rows.ensures in
    record {
      can_next = tt;
      is_finite = tt;
      done = (
        [],
        c.into_iter-event-iterator.ensures.into_iter_gives ∙ c.events-event-items.ensures.value,
        for_roomier I c.args.counted.now.links c.args.counted.now.supports c.make_rows.new.self c.requires rows.grown rows.even,
      );
      room = rows.room;
      restored = rows.restored;
    }

pub house_event-requires : goal.house_event-requires
house_event-requires c =
    let I = c.args.instance.now in
    let done = rw c.in-Some.ensures.steps at c.loop-event.invariant.done in
    record { absent = event_absent I c.loop-event.counted.links done.0 c.in-Some.event.now c.next.new.self c.events-event-items.ensures.network done.1 done.2.stand }

pub loop-event-preserved : goal.loop-event-preserved
loop-event-preserved c =
    let I = c.args.instance.now in
    let x = c.in-Some.event.now in
    let rest = c.next.new.self in
    let done = rw c.in-Some.ensures.steps at c.loop-event.invariant.done in
    record {
      can_next = tt;
      is_finite = tt;
      done = (
        done.0 ++ x ∷ [],
        append_assoc done.0 (x ∷ []) rest ∙ done.1,
        for_event I.period c.house_event.new.counted.links c.house_event.new.counted.supports done.0 x (c.in_ok-house_event.ensures.ok (record { period = I.period; events = done.0; activities = [] }) done.2),
      );
      room = λ h. c.house_event.ensures.room (c.loop-event.invariant.room h);
      restored = c.house_event.ensures.restored ∙ c.loop-event.invariant.restored;
    }
