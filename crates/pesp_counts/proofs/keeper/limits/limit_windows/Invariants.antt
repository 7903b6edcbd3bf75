-- Of the events that were reached, each one has the residues of its window alone.
use Rattle.std.proofs.Common.{◌≡◌, ℕ, All, if◌then◌else◌, nat_lt, is_some}
use Rattle.std.specs.List.{Contains}
use Rattle.pesp_base.specs.Numbered.{with_number}
use Rattle.pesp_domains.proofs.Opened.{opened}
use Rattle.pesp_instance.proofs.Rising.{Rises}
use Rattle.pesp_instance.specs.declared.event.Event.{Event}
use Rattle.pesp_counts.specs.Keeping.{rows_of}
use Rattle.pesp_counts_supports.specs.Supports.{IsTaken, Keeps}
use Rattle.pesp_counts.proofs.keeper.limits.limit_windows.Given as goal

abbrev pub invariant-loop-event : goal.invariant-loop-event
invariant-loop-event l = record {
  can_next : (goal.iterator-loop-event).can_next l.event-iterator;
  is_finite : (goal.iterator-loop-event).is_finite l.event-iterator;
  among : All (Contains l.instance.events) l.event-iterator;
  rises : Rises (λ (x : Event). x.id) l.event-iterator;
  state : (e r : ℕ) → rows_of l.links l.supports e r ≡ (if is_some (with_number (λ x. x.id) e l.event-iterator) then nat_lt r l.instance.period else opened l.instance e r);
  taken : IsTaken l.initial.supports l.supports;
  keeps : Keeps l.initial.supports l.supports;
}
