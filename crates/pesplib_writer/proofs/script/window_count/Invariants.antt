-- The events with a window among those that are left are to be counted, and there are no more than events.
use Rattle.std.proofs.Common.{◌≡◌, ◌≤◌, ◌+◌, length, filter_map}
use Rattle.pesp_base.specs.Limits.{max_events}
use Rattle.pesplib_writer.specs.Script.{own_edit}
use Rattle.pesplib_writer.proofs.script.window_count.Given as goal

abbrev pub invariant-loop-event : goal.invariant-loop-event
invariant-loop-event l = record {
  can_next : (goal.iterator-loop-event).can_next l.event-iterator;
  is_finite : (goal.iterator-loop-event).is_finite l.event-iterator;
  left : l.count + length (filter_map own_edit l.event-iterator) ≡ length (filter_map own_edit l.instance.events);
  few : l.count + length l.event-iterator ≤ max_events l.instance.period;
}
