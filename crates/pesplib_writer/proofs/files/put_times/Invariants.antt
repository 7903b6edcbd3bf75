-- The rows of the times that are left are to come.
use Rattle.std.proofs.Common.{◌≡◌, ◌++◌, map}
use Rattle.pesp_base.specs.Texts.{as_lines}
use Rattle.pesplib_writer.specs.Texts.{time_row}
use Rattle.pesplib_writer.proofs.files.put_times.Given as goal

abbrev pub invariant-loop-entry : goal.invariant-loop-entry
invariant-loop-entry l = record {
  can_next : (goal.iterator-loop-entry).can_next l.entry-iterator;
  is_finite : (goal.iterator-loop-entry).is_finite l.entry-iterator;
  left : l.text.items ++ as_lines (map time_row l.entry-iterator) ≡ l.fn.text.items ++ as_lines (map time_row l.timetable.entries);
}
