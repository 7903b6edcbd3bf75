-- The row of each event that is not to come holds what it is to hold.
use Rattle.std.proofs.Common.{◌≡◌, ℕ, None}
use Rattle.pesp_base.specs.Numbered.{with_number}
use Rattle.pesp_domains.specs.Rows.{HaveSameShape, has}
use Rattle.pesp_domains.proofs.Opened.{opened}
use Rattle.pesp_domains.proofs.sweep.open_events.Given as goal

abbrev pub invariant-loop-event : goal.invariant-loop-event
invariant-loop-event l = record {
  can_next : (goal.iterator-loop-event).can_next l.event-iterator;
  is_finite : (goal.iterator-loop-event).is_finite l.event-iterator;
  shape : HaveSameShape l.initial.rows l.rows;
  done : (e : ℕ) → with_number (λ x. x.id) e l.event-iterator ≡ None → (r : ℕ) → has l.rows e r ≡ opened l.instance e r;
}
