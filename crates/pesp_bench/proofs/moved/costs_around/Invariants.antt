-- The costs of the activities that are left are to come, before the move and after it, and each is at most the greatest weight at the greatest slack.
use Rattle.std.proofs.Common.{◌≡◌, ◌≤◌, ◌+◌, ◌*◌, ◌-◌, sum_by, length}
use Rattle.pesp_base.specs.Limits.{greatest_period, greatest_weight, max_activities}
use Rattle.pesp_instance.specs.Network.{IsNetwork, around}
use Rattle.pesp_tension.specs.Answers.{cost_in}
use Rattle.pesp_tension.specs.Timetables.{with_time}
use Rattle.pesp_bench.proofs.moved.costs_around.Given as goal

abbrev pub invariant-loop-activity : goal.invariant-loop-activity
invariant-loop-activity l = record {
  can_next : (goal.iterator-loop-activity).can_next l.activity-iterator;
  is_finite : (goal.iterator-loop-activity).is_finite l.activity-iterator;
  before : l.before + sum_by (cost_in l.times) l.activity-iterator ≡ sum_by (cost_in l.times) (around l.instance l.event);
  after : l.after + sum_by (cost_in (with_time l.times l.event l.own.1)) l.activity-iterator ≡ sum_by (cost_in (with_time l.times l.event l.own.1)) (around l.instance l.event);
  small_before : l.before + greatest_weight * (greatest_period - 1) * length l.activity-iterator ≤ greatest_weight * (greatest_period - 1) * max_activities l.instance.period;
  small_after : l.after + greatest_weight * (greatest_period - 1) * length l.activity-iterator ≤ greatest_weight * (greatest_period - 1) * max_activities l.instance.period;
  network : IsNetwork l.instance;
}
