-- Each activity's costs are taken from those that are to come.
use Rattle.std.proofs.Common.{◌∙◌, arith}
use Rattle.std.proofs.lemmas.List.Sums.{sum_by-cons}
use Rattle.pesp_instance.specs.Network.{is_end_of}
use Rattle.pesp_instance.proofs.Rising.{length-filter_le}
use Rattle.pesp_tension.specs.Answers.{cost_in}
use Rattle.pesp_tension.specs.Timetables.{with_time}
use Rattle.pesp_bench.proofs.moved.costs_around.Goals as goal

pub loop-activity-init : goal.loop-activity-init
loop-activity-init c =
    let all = c.into_iter-activity-iterator.ensures.into_iter_gives ∙ c.around-activity-items.ensures.value in
    let network = c.around-activity-items.ensures.network in
    let few = length-filter_le (is_end_of c.args.event) c.args.instance.now.activities in
    record {
      can_next = tt;
      is_finite = tt;
      before = rw all (omega arith);
      after = rw all (omega arith);
      small_before = rw all (omega (arith, few, network.few_activities));
      small_after = rw all (omega (arith, few, network.few_activities));
      network = network;
    }

pub loop-activity-preserved : goal.loop-activity-preserved
loop-activity-preserved c =
    let own = c.args.own in
    let before = rw c.in-Some.ensures.steps at c.loop-activity.invariant.before in
    let after = rw c.in-Some.ensures.steps at c.loop-activity.invariant.after in
    let small_before = rw c.in-Some.ensures.steps at c.loop-activity.invariant.small_before in
    let small_after = rw c.in-Some.ensures.steps at c.loop-activity.invariant.small_after in
    let now = sum_by-cons (cost_in c.args.times.now) c.in-Some.activity.now c.next.new.self in
    let then = sum_by-cons (cost_in (with_time c.args.times.now c.args.event own.1)) c.in-Some.activity.now c.next.new.self in
    let small = c.costs_of-shares.ensures.small in
    record {
      can_next = tt;
      is_finite = tt;
      before = omega (arith, before, now, c.costs_of-shares.ensures.before);
      after = omega (arith, after, then, c.costs_of-shares.ensures.after);
      small_before = omega (arith, small_before, small.0);
      small_after = omega (arith, small_after, small.1);
      network = c.loop-activity.invariant.network;
    }
