-- The lines of the windows of events among those that are left are to come.
use Rattle.std.proofs.Common.{◌≡◌, ◌++◌, map, filter_map}
use Rattle.pesp_base.specs.Texts.{as_lines}
use Rattle.pesplib_writer.specs.Script.{edit_line, own_edit}
use Rattle.pesplib_writer.proofs.script.put_windows.Given as goal

abbrev pub invariant-loop-event : goal.invariant-loop-event
invariant-loop-event l = record {
  can_next : (goal.iterator-loop-event).can_next l.event-iterator;
  is_finite : (goal.iterator-loop-event).is_finite l.event-iterator;
  left : l.text.items ++ as_lines (map edit_line (filter_map own_edit l.event-iterator)) ≡ l.fn.text.items ++ as_lines (map edit_line (filter_map own_edit l.instance.events));
}
