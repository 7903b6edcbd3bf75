-- The lines of the activities that are left are to come.
use Rattle.std.proofs.Common.{◌≡◌, ◌++◌, map}
use Rattle.pesp_base.specs.Texts.{as_lines}
use Rattle.pesp_instance.specs.declared.edit.Edit.TheVariants.{AddActivity}
use Rattle.pesplib_writer.specs.Script.{edit_line}
use Rattle.pesplib_writer.proofs.script.put_activities.Given as goal

abbrev pub invariant-loop-activity : goal.invariant-loop-activity
invariant-loop-activity l = record {
  can_next : (goal.iterator-loop-activity).can_next l.activity-iterator;
  is_finite : (goal.iterator-loop-activity).is_finite l.activity-iterator;
  left : l.text.items ++ as_lines (map edit_line (map AddActivity l.activity-iterator)) ≡ l.fn.text.items ++ as_lines (map edit_line (map AddActivity l.instance.activities));
}
