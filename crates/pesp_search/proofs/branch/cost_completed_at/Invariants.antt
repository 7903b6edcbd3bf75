-- The costs of the activities that are left are to come, and their ends have times.
use Rattle.std.proofs.Common.{◌≡◌, ◌≤◌, ◌+◌, ◌*◌, ◌-◌, sum_by, filter, length, All}
use Rattle.pesp_base.specs.Limits.{greatest_period, greatest_weight, max_activities}
use Rattle.pesp_instance.specs.Network.{around}
use Rattle.pesp_tension.specs.Answers.{IsTimed, cost_in}
use Rattle.pesp_search.specs.Branch.{is_complete_at}
use Rattle.pesp_search.proofs.branch.cost_completed_at.Given as goal

abbrev pub invariant-loop-activity : goal.invariant-loop-activity
invariant-loop-activity l = record {
  can_next : (goal.iterator-loop-activity).can_next l.activity-iterator;
  is_finite : (goal.iterator-loop-activity).is_finite l.activity-iterator;
  left : l.cost + sum_by (cost_in l.timetable) (filter (is_complete_at l.event) l.activity-iterator) ≡ sum_by (cost_in l.timetable) (filter (is_complete_at l.event) (around l.instance l.event));
  small : l.cost + greatest_weight * (greatest_period - 1) * length l.activity-iterator ≤ greatest_weight * (greatest_period - 1) * max_activities l.instance.period;
  timed : All (IsTimed l.timetable) l.activity-iterator;
}
