-- Each activity's cost is taken from those that are to come.
use Rattle.std.proofs.Common.{◌+◌, sum_by, filter, zero-add, add_assoc, sym, ap, ◌∙◌, arith}
use Rattle.std.proofs.lemmas.List.Elements.{All-filter, All-head, All-tail}
use Rattle.std.proofs.lemmas.List.Sums.{sum_by-cons}
use Rattle.pesp_instance.specs.Network.{is_end_of}
use Rattle.pesp_instance.proofs.Rising.{length-filter_le}
use Rattle.pesp_tension.specs.Answers.{IsTimed, cost_in}
use Rattle.pesp_tension.proofs.Timed.{ends_timed}
use Rattle.pesp_search.specs.Branch.{is_complete_at}
use Rattle.pesp_search.proofs.branch.cost_completed_at.Goals as goal

pub loop-activity-init : goal.loop-activity-init
loop-activity-init c =
    let I = c.args.instance.now in
    let all = c.into_iter-activity-iterator.ensures.into_iter_gives ∙ c.around-activity-items.ensures.value in
    let few = length-filter_le (is_end_of c.args.event) I.activities in
    record {
      can_next = tt;
      is_finite = tt;
      left = rw all (zero-add _);
      small = rw all (omega (arith, few, c.around-activity-items.ensures.network.few_activities));
      timed = rw all (All-filter (is_end_of c.args.event) (IsTimed c.args.timetable.now) I.activities (ends_timed I c.args.timetable.now c.around-activity-items.ensures.network c.requires));
    }

pub loop-activity-preserved-then-is_complete_at : goal.loop-activity-preserved-then-is_complete_at
loop-activity-preserved-then-is_complete_at c =
    let m = c.args.timetable.now in
    let a = c.in-Some.activity.now in
    let rest = c.next.new.self in
    let left = rw (c.in-Some.ensures.steps, sym c.is_complete_at.ensures ∙ c.if-is_complete_at.true) at c.loop-activity.invariant.left in
    let small = rw c.in-Some.ensures.steps at c.loop-activity.invariant.small in
    record {
      can_next = tt;
      is_finite = tt;
      left =
          add_assoc c.loop-activity.cost c.cost_of_activity-cost.result (sum_by (cost_in m) (filter (is_complete_at c.args.event) rest))
          ∙ ap (λ cost. c.loop-activity.cost + (cost + sum_by (cost_in m) (filter (is_complete_at c.args.event) rest))) c.cost_of_activity-cost.ensures.value
          ∙ sym (ap (λ n. c.loop-activity.cost + n) (sum_by-cons (cost_in m) a (filter (is_complete_at c.args.event) rest))) ∙ left;
      small = omega (arith, small, c.cost_of_activity-cost.ensures.small);
      timed = All-tail (IsTimed m) a rest (rw c.in-Some.ensures.steps at c.loop-activity.invariant.timed);
    }

pub loop-activity-preserved : goal.loop-activity-preserved
loop-activity-preserved c =
    let m = c.args.timetable.now in
    let left = rw (c.in-Some.ensures.steps, sym c.is_complete_at.ensures ∙ c.if-is_complete_at.false) at c.loop-activity.invariant.left in
    let small = rw c.in-Some.ensures.steps at c.loop-activity.invariant.small in
    record {
      can_next = tt;
      is_finite = tt;
      left = left;
      small = omega (arith, small);
      timed = All-tail (IsTimed m) c.in-Some.activity.now c.next.new.self (rw c.in-Some.ensures.steps at c.loop-activity.invariant.timed);
    }

pub cost_of_activity-cost-requires : goal.cost_of_activity-cost-requires
cost_of_activity-cost-requires c =
    All-head (IsTimed c.args.timetable.now) c.in-Some.activity.now c.next.new.self (rw c.in-Some.ensures.steps at c.loop-activity.invariant.timed)
