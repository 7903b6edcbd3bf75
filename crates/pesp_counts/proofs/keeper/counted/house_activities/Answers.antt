-- An activity more has its place.
use Rattle.std.proofs.Common.{◌∷◌, ◌++◌, [], ◌∙◌, sym, append_assoc}
use Rattle.pesp_instance.specs.Network.{Network}
use Rattle.pesp_counts.proofs.Housed.{activity_made, for_roomier}
use Rattle.pesp_counts.proofs.keeper.counted.house_activities.Goals as goal

pub loop-activity-init : goal.loop-activity-init
loop-activity-init c =
    let I : Network = record { period = c.args.instance.now.period; events = c.args.instance.now.events; activities = [] } in
    let counts = c.make_counts.ensures in
    record {
      can_next = tt;
      is_finite = tt;
      done = (
        [],
        c.into_iter-activity-iterator.ensures.into_iter_gives ∙ c.activities-activity-items.ensures.value,
        for_roomier I c.args.links.now c.args.supports.now c.make_counts.new.self c.requires counts.grown counts.even,
      );
      period = counts.grown.period;
      rows = counts.rows;
    }

pub house_activity-requires : goal.house_activity-requires
house_activity-requires c =
    let I = c.args.instance.now in
    let x = c.in-Some.activity.now in
    let done = rw c.in-Some.ensures.steps at c.loop-activity.invariant.done in
    record {
      period = done.2.period ∙ sym c.period.ensures.value;
      stands = (
        record { period = I.period; events = I.events; activities = done.0 },
        record { period = I.period; events = I.events; activities = done.0 ++ x ∷ [] },
        activity_made I done.0 x c.next.new.self c.activities-activity-items.ensures.network done.1,
        done.2,
      );
    }

pub loop-activity-preserved : goal.loop-activity-preserved
loop-activity-preserved c =
    let I = c.args.instance.now in
    let x = c.in-Some.activity.now in
    let rest = c.next.new.self in
    let done = rw c.in-Some.ensures.steps at c.loop-activity.invariant.done in
    record {
      can_next = tt;
      is_finite = tt;
      done = (
        done.0 ++ x ∷ [],
        append_assoc done.0 (x ∷ []) rest ∙ done.1,
        c.in_ok-house_activity.ensures.ok (record { period = I.period; events = I.events; activities = done.0 }) (record { period = I.period; events = I.events; activities = done.0 ++ x ∷ [] })
            (activity_made I done.0 x rest c.activities-activity-items.ensures.network done.1) done.2,
      );
      period = c.house_activity.ensures.grown.period ∙ c.loop-activity.invariant.period;
      rows = c.house_activity.ensures.rows ∙ c.loop-activity.invariant.rows;
    }
