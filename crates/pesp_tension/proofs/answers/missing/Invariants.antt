-- The least event without a time is among those that are left.
use Rattle.std.proofs.Common.{◌≡◌, find, map, is_none}
use Rattle.pesp_tension.specs.Timetables.{time_of}
use Rattle.pesp_tension.specs.Answers.{first_missing}
use Rattle.pesp_tension.proofs.answers.missing.Given as goal

abbrev pub invariant-loop-event : goal.invariant-loop-event
invariant-loop-event l = record {
  can_next : (goal.iterator-loop-event).can_next l.event-iterator;
  is_finite : (goal.iterator-loop-event).is_finite l.event-iterator;
  left : find (λ e. is_none (time_of l.timetable e)) (map (λ e. e.id) l.event-iterator) ≡ first_missing l.instance l.timetable;
}
