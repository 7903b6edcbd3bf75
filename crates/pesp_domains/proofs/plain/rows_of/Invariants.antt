-- Each event that is not to come has its row.
use Rattle.std.proofs.Common.{◌≡◌, ℕ, All, length, if◌then◌else◌, option_map, Some, None}
use Rattle.std.specs.List.{Contains}
use Rattle.pesp_base.specs.Numbered.{with_number}
use Rattle.pesp_instance.specs.Network.{has_event}
use Rattle.pesp_domains.specs.Rows.{row_at}
use Rattle.pesp_domains.proofs.plain.rows_of.Given as goal

abbrev pub invariant-loop-event : goal.invariant-loop-event
invariant-loop-event l = record {
  can_next : (goal.iterator-loop-event).can_next l.event-iterator;
  is_finite : (goal.iterator-loop-event).is_finite l.event-iterator;
  among : All (Contains l.instance.events) l.event-iterator;
  done : (e : ℕ) → with_number (λ x. x.id) e l.event-iterator ≡ None → option_map length (row_at l.rows e) ≡ (if has_event l.instance e then Some l.instance.period else None);
}
