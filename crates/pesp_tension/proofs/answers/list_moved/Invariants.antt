-- Those of the events that are left are to come, and they have times.
use Rattle.std.proofs.Common.{◌≡◌, ◌++◌, All, IsSome}
use Rattle.pesp_tension.specs.Timetables.{time_of}
use Rattle.pesp_tension.specs.Answers.{moved_among}
use Rattle.pesp_tension.proofs.answers.list_moved.Given as goal

abbrev pub invariant-loop-event : goal.invariant-loop-event
invariant-loop-event l = record {
  can_next : (goal.iterator-loop-event).can_next l.event-iterator;
  is_finite : (goal.iterator-loop-event).is_finite l.event-iterator;
  left : l.violations.items ++ moved_among l.timetable l.event-iterator ≡ l.fn.violations.items ++ moved_among l.timetable l.instance.events;
  timed : All (λ e. IsSome (time_of l.timetable e.id)) l.event-iterator;
}
