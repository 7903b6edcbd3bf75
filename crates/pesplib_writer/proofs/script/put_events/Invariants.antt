-- The lines of the events that are left are to come.
use Rattle.std.proofs.Common.{◌≡◌, ◌++◌, map}
use Rattle.pesp_base.specs.Texts.{as_lines}
use Rattle.pesp_instance.specs.declared.edit.Edit.TheVariants.{AddEvent}
use Rattle.pesplib_writer.specs.Script.{edit_line}
use Rattle.pesplib_writer.proofs.script.put_events.Given as goal

abbrev pub invariant-loop-event : goal.invariant-loop-event
invariant-loop-event l = record {
  can_next : (goal.iterator-loop-event).can_next l.event-iterator;
  is_finite : (goal.iterator-loop-event).is_finite l.event-iterator;
  left : l.text.items ++ as_lines (map edit_line (map AddEvent (map (λ e. e.id) l.event-iterator))) ≡ l.fn.text.items ++ as_lines (map edit_line (map AddEvent (map (λ e. e.id) l.instance.events)));
}
