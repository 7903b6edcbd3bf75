-- A node of the tree: times for the first events, and what the domains leave after them.
use Rattle.std.specs.Prelude.{ℕ, IsTrue, List, [], ◌∷◌, length, slice_index}
use Rattle.std.specs.List.{zip}
use Rattle.pesp_instance.specs.Network.{Network, event_ids, has_event}
use Rattle.pesp_domains.specs.declared.pair.Pair.{Pair}
use Rattle.pesp_domains.specs.Domains.{InDomains}
use Rattle.pesp_tension.specs.Answers.{time_at}
use Rattle.pesp_tension.specs.Timetables.{Times}

-- the timetable that gives the first events of the instance these times
abbrev pub timetable_of : Network → List ℕ → Times
timetable_of I times = record { period = I.period; entries = zip (event_ids I) times }

-- the time of an event in it, or 0
abbrev pub at : Network → List ℕ → ℕ → ℕ
at I times e = time_at (timetable_of I times) e

-- the pairs that give the first of these events these times
abbrev pub pairs_of : List ℕ → List ℕ → List Pair
pairs_of [] times = []
pairs_of (e ∷ events) [] = []
pairs_of (e ∷ events) (t ∷ times) = record { event = e; residue = t } ∷ pairs_of events times

-- the residue is in the domain of the event that is next after the path
abbrev pub InNext : Network → List ℕ → ℕ → Type 0
InNext I path r = InDomains I (pairs_of (event_ids I) path) (slice_index (event_ids I) (length path)) r

-- some event has no residue left under the pushed pairs
abbrev pub HasEmpty : Network → List Pair → Type 0
HasEmpty I pushes = (e : ℕ) × IsTrue (has_event I e) × ((r : ℕ) → InDomains I pushes e r → ⊥)

-- some event has no residue left after the path
abbrev pub IsDeadEnd : Network → List ℕ → Type 0
IsDeadEnd I path = HasEmpty I (pairs_of (event_ids I) path)
