-- Each activity is met where those that are left are, and their ends have times.
use Rattle.std.proofs.Common.{◌↔◌, All, IsTrue}
use Rattle.pesp_tension.specs.Answers.{IsTimed, meets}
use Rattle.pesp_tension.proofs.agreement.meets_all.Given as goal

abbrev pub invariant-loop-activity : goal.invariant-loop-activity
invariant-loop-activity l = record {
  can_next : (goal.iterator-loop-activity).can_next l.activity-iterator;
  is_finite : (goal.iterator-loop-activity).is_finite l.activity-iterator;
  left : All (λ a. IsTrue (meets l.timetable a)) l.instance.activities ↔ All (λ a. IsTrue (meets l.timetable a)) l.activity-iterator;
  timed : All (IsTimed l.timetable) l.activity-iterator;
}
