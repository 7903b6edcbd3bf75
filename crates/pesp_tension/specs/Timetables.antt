-- What a clause sees of a timetable, and what its changes make of it.
use Rattle.std.specs.Prelude.{◌≡◌, ℕ, ◌<◌, ◌≤◌, nat_le, is_none, ◌&&◌, List, [], ◌∷◌, length, Option, None, All, Result, Ok, Err}
use Rattle.std.specs.Ordering.{nat_cmp}
use Rattle.std.specs.BTreeMap.{is_at, insert_entry}
use Rattle.std.specs.Map.{keys_of, values_of, lookup, remove_entry}
use Rattle.pesp_base.specs.Limits.{greatest_number, max_events}
use Rattle.pesp_base.specs.declared.refusal.Refusal.{Refusal}
use Rattle.pesp_base.specs.declared.refusal.Refusal.TheVariants as no
use Rattle.pesp_base.specs.Refusals.{when, unless_refused}

-- a period, and the times of events, ascending by event
pub record Times : Type 0 where
  pub period : ℕ
  pub entries : List (ℕ × ℕ)

abbrev pub no_times : ℕ → Times
no_times period = record { period = period; entries = [] }

-- the events that have a time, ascending
abbrev pub timed_events : Times → List ℕ
timed_events m = keys_of m.entries

abbrev pub time_of : Times → ℕ → Option ℕ
time_of m e = lookup (is_at (nat_cmp e)) m.entries

-- the timetable with the event at a time
abbrev pub with_time : Times → ℕ → ℕ → Times
with_time m e t = record m { entries = insert_entry nat_cmp m.entries e t }

-- the timetable without the event
abbrev pub without_time : Times → ℕ → Times
without_time m e = record m { entries = remove_entry (is_at (nat_cmp e)) m.entries }

-- the timetable with the event at a time, or the first refusal
abbrev pub set_time : Times → ℕ → ℕ → Result Times Refusal
set_time m e t =
    unless_refused
    (when (nat_le m.period t) (no.TimeOutOfRange t)
    ∷ when (is_none (time_of m e) && nat_le (max_events m.period) (length m.entries)) no.TooManyEvents ∷ [])
    (with_time m e t)

-- the refusal is the first one; out of memory comes where there is none, and only for an event without a time
abbrev pub IsRefusalBy : Times → ℕ → Result Times Refusal → Refusal → Type 0
IsRefusalBy m e (Err first) refusal = refusal ≡ first
IsRefusalBy m e (Ok next) refusal = (refusal ≡ no.Memory) × (time_of m e ≡ None)

abbrev pub IsSetRefusal : Times → ℕ → ℕ → Refusal → Type 0
IsSetRefusal m e t refusal = IsRefusalBy m e (set_time m e t) refusal

-- the numbers of events, their times and their count are within the limits
pub record IsTimetable (m : Times) : Type 0 where
  pub numbers : All (λ e. e ≤ greatest_number) (keys_of m.entries)
  pub times : All (λ t. t < m.period) (values_of m.entries)
  pub few : length m.entries ≤ max_events m.period
