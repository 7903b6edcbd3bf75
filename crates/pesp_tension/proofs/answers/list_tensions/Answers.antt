-- Each activity's tension is put after those before it.
use Rattle.std.proofs.Common.{append_assoc, refl, ◌∙◌}
use Rattle.pesp_tension.specs.Answers.{IsTimed}
use Rattle.pesp_tension.proofs.Timed.{ends_timed, head_of, tail_of}
use Rattle.pesp_tension.proofs.answers.list_tensions.Goals as goal

pub loop-activity-init : goal.loop-activity-init
loop-activity-init c =
    let all = c.into_iter-activity-iterator.ensures.into_iter_gives ∙ c.activities-activity-items.ensures.value in
    record {
      can_next = tt;
      is_finite = tt;
      left = rw (c.in_ok-tensions.ensures.items, all) refl;
      timed = rw all (ends_timed c.args.instance.now c.args.timetable.now c.activities-activity-items.ensures.network c.requires);
    }

pub loop-activity-preserved : goal.loop-activity-preserved
loop-activity-preserved c = record {
  can_next = tt;
  is_finite = tt;
  left = rw (c.in_ok-push.ensures.items, c.tension_of.ensures.value, append_assoc) (rw c.in-Some.ensures.steps at c.loop-activity.invariant.left);
  timed = tail_of (IsTimed c.args.timetable.now) c.in-Some.activity.now c.next.new.self (rw c.in-Some.ensures.steps at c.loop-activity.invariant.timed);
}

pub tension_of-requires : goal.tension_of-requires
tension_of-requires c =
    head_of (IsTimed c.args.timetable.now) c.in-Some.activity.now c.next.new.self (rw c.in-Some.ensures.steps at c.loop-activity.invariant.timed)
