-- The tensions of the activities that are left are to come, and their ends have times.
use Rattle.std.proofs.Common.{◌≡◌, ◌++◌, map, All}
use Rattle.pesp_tension.specs.Answers.{IsTimed, tension_in, tensions_of}
use Rattle.pesp_tension.proofs.answers.list_tensions.Given as goal

abbrev pub invariant-loop-activity : goal.invariant-loop-activity
invariant-loop-activity l = record {
  can_next : (goal.iterator-loop-activity).can_next l.activity-iterator;
  is_finite : (goal.iterator-loop-activity).is_finite l.activity-iterator;
  left : l.tensions.items ++ map (tension_in l.timetable) l.activity-iterator ≡ tensions_of l.instance l.timetable;
  timed : All (IsTimed l.timetable) l.activity-iterator;
}
