-- Each activity's cost is taken from those that are to come.
use Rattle.std.proofs.Common.{◌∙◌, arith}
use Rattle.std.proofs.lemmas.List.Sums.{sum_by-cons}
use Rattle.pesp_tension.specs.Answers.{cost_in}
use Rattle.pesp_bench.proofs.costing.cost_of_all.Goals as goal

pub loop-activity-init : goal.loop-activity-init
loop-activity-init c =
    let all = c.into_iter-activity-iterator.ensures.into_iter_gives ∙ c.activities-activity-items.ensures.value in
    let few = c.activities-activity-items.ensures.network.few_activities in
    record {
      can_next = tt;
      is_finite = tt;
      left = rw all (omega arith);
      small = rw all (omega (arith, few));
    }

pub loop-activity-preserved : goal.loop-activity-preserved
loop-activity-preserved c =
    let left = rw c.in-Some.ensures.steps at c.loop-activity.invariant.left in
    let small = rw c.in-Some.ensures.steps at c.loop-activity.invariant.small in
    let here = sum_by-cons (cost_in c.args.times.now) c.in-Some.activity.now c.next.new.self in
    record {
      can_next = tt;
      is_finite = tt;
      left = omega (arith, left, here, c.cost_at-cost.ensures.value);
      small = omega (arith, small, c.cost_at-cost.ensures.small);
    }
