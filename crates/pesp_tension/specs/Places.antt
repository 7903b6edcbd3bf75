-- Places in a list of times that rises by event.
use Rattle.std.specs.Prelude.{◌≡◌, ℕ, ◌<◌, ◌≤◌, List, length, slice_index_or}
use Rattle.pesp_tension.specs.Timetables.{Times, IsTimetable}

-- the event at a place
abbrev pub event_at : List (ℕ × ℕ) → ℕ → ℕ
event_at es place = let entry = slice_index_or es place (0, 0) in entry.0

-- each event is below those after it
abbrev pub AreRising : List (ℕ × ℕ) → Type 0
AreRising es = (i j : ℕ) → i < j → j < length es → event_at es i < event_at es j

-- the event stands at the place
pub record IsAt (es : List (ℕ × ℕ)) (e place : ℕ) : Type 0 where
  pub within : place < length es
  pub event : event_at es place ≡ e

-- the event would stand at the place: those before it are smaller, and the others greater
pub record IsGap (es : List (ℕ × ℕ)) (e place : ℕ) : Type 0 where
  pub within : place ≤ length es
  pub smaller : (i : ℕ) → i < place → event_at es i < e
  pub greater : (i : ℕ) → place ≤ i → i < length es → e < event_at es i

-- a timetable as it is kept: within the limits, and rising by event
pub record IsKept (m : Times) : Type 0 where
  pub within : IsTimetable m
  pub rising : AreRising m.entries
