-- The rows of the activities that are left are to come.
use Rattle.std.proofs.Common.{◌≡◌, ◌++◌, map}
use Rattle.pesp_base.specs.Texts.{as_lines}
use Rattle.pesplib_writer.specs.Texts.{activity_row}
use Rattle.pesplib_writer.proofs.files.put_activities.Given as goal

abbrev pub invariant-loop-activity : goal.invariant-loop-activity
invariant-loop-activity l = record {
  can_next : (goal.iterator-loop-activity).can_next l.activity-iterator;
  is_finite : (goal.iterator-loop-activity).is_finite l.activity-iterator;
  left : l.text.items ++ as_lines (map activity_row l.activity-iterator) ≡ l.fn.text.items ++ as_lines (map activity_row l.instance.activities);
}
