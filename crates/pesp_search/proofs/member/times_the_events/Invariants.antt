-- The events are timed where those that are left are by the times that are left.
use Rattle.std.proofs.Common.{◌≡◌, ◌↔◌, map}
use Rattle.std.specs.Map.{keys_of}
use Rattle.pesp_instance.specs.Network.{event_ids}
use Rattle.pesp_tension.specs.Timetables.{timed_events}
use Rattle.pesp_search.proofs.member.times_the_events.Given as goal

abbrev pub invariant-loop-event : goal.invariant-loop-event
invariant-loop-event l = record {
  can_next : (goal.iterator-loop-event).can_next l.event-iterator;
  is_finite : (goal.iterator-loop-event).is_finite l.event-iterator;
  left : (timed_events l.timetable ≡ event_ids l.instance) ↔ (keys_of l.times ≡ map (λ e. e.id) l.event-iterator);
}
