-- Those of the activities that are left are to come, and their ends have times.
use Rattle.std.proofs.Common.{◌≡◌, ◌++◌, All}
use Rattle.pesp_tension.specs.Answers.{IsTimed, unmet_among}
use Rattle.pesp_tension.proofs.answers.list_unmet.Given as goal

abbrev pub invariant-loop-activity : goal.invariant-loop-activity
invariant-loop-activity l = record {
  can_next : (goal.iterator-loop-activity).can_next l.activity-iterator;
  is_finite : (goal.iterator-loop-activity).is_finite l.activity-iterator;
  left : l.violations.items ++ unmet_among l.timetable l.activity-iterator ≡ l.fn.violations.items ++ unmet_among l.timetable l.instance.activities;
  timed : All (IsTimed l.timetable) l.activity-iterator;
}
