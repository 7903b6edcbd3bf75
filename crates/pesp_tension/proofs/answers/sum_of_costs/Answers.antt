-- Each activity's cost is taken from those that are to come.
use Rattle.std.proofs.Common.{◌+◌, sum_by, add_assoc, arith, ap, sym, ◌∙◌}
use Rattle.std.proofs.lemmas.List.Sums.{sum_by-cons}
use Rattle.pesp_tension.specs.Answers.{IsTimed, cost_in}
use Rattle.pesp_tension.proofs.Timed.{ends_timed, head_of, tail_of}
use Rattle.pesp_tension.proofs.answers.sum_of_costs.Goals as goal

pub loop-activity-init : goal.loop-activity-init
loop-activity-init c =
    let all = c.into_iter-activity-iterator.ensures.into_iter_gives ∙ c.activities-activity-items.ensures.value in
    let few = c.activities-activity-items.ensures.network.few_activities in
    record {
      can_next = tt;
      is_finite = tt;
      left = rw all (omega arith);
      small = rw all (omega (arith, few));
      timed = rw all (ends_timed c.args.instance.now c.args.timetable.now c.activities-activity-items.ensures.network c.requires);
    }

pub loop-activity-preserved : goal.loop-activity-preserved
loop-activity-preserved c =
    let left = rw c.in-Some.ensures.steps at c.loop-activity.invariant.left in
    let small = rw c.in-Some.ensures.steps at c.loop-activity.invariant.small in
    record {
      can_next = tt;
      is_finite = tt;
      left =
          add_assoc c.loop-activity.cost c.cost_of_activity-cost.result (sum_by (cost_in c.args.timetable.now) c.next.new.self)
          ∙ ap (λ cost. c.loop-activity.cost + (cost + sum_by (cost_in c.args.timetable.now) c.next.new.self)) c.cost_of_activity-cost.ensures.value
          ∙ sym (ap (λ n. c.loop-activity.cost + n) (sum_by-cons (cost_in c.args.timetable.now) c.in-Some.activity.now c.next.new.self)) ∙ left;
      small = omega (arith, small, c.cost_of_activity-cost.ensures.small);
      timed = tail_of (IsTimed c.args.timetable.now) c.in-Some.activity.now c.next.new.self (rw c.in-Some.ensures.steps at c.loop-activity.invariant.timed);
    }

pub cost_of_activity-cost-requires : goal.cost_of_activity-cost-requires
cost_of_activity-cost-requires c =
    head_of (IsTimed c.args.timetable.now) c.in-Some.activity.now c.next.new.self (rw c.in-Some.ensures.steps at c.loop-activity.invariant.timed)
