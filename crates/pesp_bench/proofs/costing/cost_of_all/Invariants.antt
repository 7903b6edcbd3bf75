-- The costs of the activities that are left are to come, and each costs at most the greatest weight at the greatest slack.
use Rattle.std.proofs.Common.{◌≡◌, ◌≤◌, ◌+◌, ◌*◌, ◌-◌, sum_by, length}
use Rattle.pesp_base.specs.Limits.{greatest_period, greatest_weight, max_activities}
use Rattle.pesp_tension.specs.Answers.{cost_in, cost_of}
use Rattle.pesp_bench.proofs.costing.cost_of_all.Given as goal

abbrev pub invariant-loop-activity : goal.invariant-loop-activity
invariant-loop-activity l = record {
  can_next : (goal.iterator-loop-activity).can_next l.activity-iterator;
  is_finite : (goal.iterator-loop-activity).is_finite l.activity-iterator;
  left : l.cost + sum_by (cost_in l.times) l.activity-iterator ≡ cost_of l.instance l.times;
  small : l.cost + greatest_weight * (greatest_period - 1) * length l.activity-iterator ≤ greatest_weight * (greatest_period - 1) * max_activities l.instance.period;
}
