-- Each event stands in its window where those that are left do, and they have times.
use Rattle.std.proofs.Common.{◌↔◌, All, IsSome, IsTrue}
use Rattle.pesp_tension.specs.Answers.{agrees}
use Rattle.pesp_tension.specs.Timetables.{time_of}
use Rattle.pesp_tension.proofs.agreement.agrees_with_all.Given as goal

abbrev pub invariant-loop-event : goal.invariant-loop-event
invariant-loop-event l = record {
  can_next : (goal.iterator-loop-event).can_next l.event-iterator;
  is_finite : (goal.iterator-loop-event).is_finite l.event-iterator;
  left : All (λ x. IsTrue (agrees l.timetable x)) l.instance.events ↔ All (λ x. IsTrue (agrees l.timetable x)) l.event-iterator;
  timed : All (λ e. IsSome (time_of l.timetable e.id)) l.event-iterator;
}
