-- The canonical texts of activities, of fixed times and of timetables.
use Rattle.std.specs.Prelude.{ℕ, List, [], ◌∷◌, map, filter_map, codes, decimal, is_some, find, All, IsTrue, Option, None, option_map}
use Rattle.std.specs.Fmt.{signed_decimal}
use Rattle.pesp_base.specs.declared.activity.Activity.{Activity}
use Rattle.pesp_base.specs.Texts.{separated, as_lines}
use Rattle.pesp_instance.specs.declared.event.Event.{Event}
use Rattle.pesp_instance.specs.Network.{Network, fixed_time, is_end_of}
use Rattle.pesp_tension.specs.Timetables.{Times}

-- a row's fields, with a semicolon and a space between each two
abbrev pub row_line : List (List ℕ) → List ℕ
row_line fields = separated (codes "; ") fields

-- the fields of an activity: its number, its ends, its bounds and its weight
abbrev pub activity_fields : Activity → List (List ℕ)
activity_fields a =
    decimal a.id ∷ decimal a.from ∷ decimal a.to ∷ signed_decimal a.span.lower ∷ signed_decimal a.span.upper ∷ decimal a.weight ∷ []

abbrev pub activity_row : Activity → List ℕ
activity_row a = row_line (activity_fields a)

-- the text of activities
abbrev pub activities_text : Network → List ℕ
activities_text I = as_lines (map activity_row I.activities)

-- an event and its time
abbrev pub time_row : ℕ × ℕ → List ℕ
time_row x = row_line (decimal x.0 ∷ decimal x.1 ∷ [])

-- the text of events and their times
abbrev pub entries_text : List (ℕ × ℕ) → List ℕ
entries_text entries = as_lines (map time_row entries)

-- an event's fixed time beside its number, if it has one
abbrev pub fixed_entry : Event → Option (ℕ × ℕ)
fixed_entry e = option_map (λ t. (e.id, t)) (fixed_time e)

-- the fixed events, ascending, and their times
abbrev pub fixed_entries : Network → List (ℕ × ℕ)
fixed_entries I = filter_map fixed_entry I.events

-- the text of fixed times
abbrev pub fixed_text : Network → List ℕ
fixed_text I = entries_text (fixed_entries I)

-- the text of a timetable
abbrev pub times_text : Times → List ℕ
times_text m = entries_text m.entries

-- an event without a window
abbrev pub without_window : Event → Event
without_window e = record e { window = None }

-- the instance without its windows
abbrev pub without_windows : Network → Network
without_windows I = record I { events = map without_window I.events }

-- each event is an end of an activity
abbrev pub AreUsed : Network → Type 0
AreUsed I = All (λ e. IsTrue (is_some (find (is_end_of e.id) I.activities))) I.events
