-- Which activities are listed at which event: each vertex has the numbers of the activities at its event.
use Rattle.std.specs.Prelude.{◌≡◌, ℕ, Bool, false, ◌==◌, ◌&&◌, ◌||◌, not, List, [], ◌∷◌, map, Option, Some, None, IsSome}
use Rattle.std.specs.BTreeMap.{is_at}
use Rattle.std.specs.List.{list_any, filter_map}
use Rattle.std.specs.Ordering.{nat_cmp}
use Rattle.pesp_base.specs.declared.activity.Activity.{Activity}
use Rattle.pesp_base.specs.Numbered.{with_number, change_in}
use Rattle.pesp_base.specs.Windows.{Interval}
use Rattle.pesp_instance.specs.declared.vertex.Vertex.{Vertex}
use Rattle.pesp_instance.specs.Network.{Event, is_end_of}
use Rattle.pesp_instance.specs.Table.{Table}

-- the number by which vertices rise
abbrev pub vertex_number : Vertex → ℕ
vertex_number x = x.event.id

-- the events of vertices
abbrev pub events_of : List Vertex → List Event
events_of vertices = map (λ x. x.event) vertices

-- the events with another window of one, or with none
abbrev pub with_window : ℕ → Option Interval → List Event → List Event
with_window e window events = change_in (λ x. x.id) e (λ x. record x { window = window }) events

-- whether the number is among the keys of a set
abbrev pub has_key : List ℕ → ℕ → Bool
has_key keys n = list_any (is_at (nat_cmp n)) keys

-- whether there is a vertex, and it lists the activity of number n
abbrev pub lists_at : Option Vertex → ℕ → Bool
lists_at None n = false
lists_at (Some x) n = has_key x.activities.keys n

-- whether the activity of number n is listed at the event e
abbrev pub lists : List Vertex → ℕ → ℕ → Bool
lists vertices e n = lists_at (with_number vertex_number e vertices) n

-- every event lists what it did
abbrev pub ListTheSame : List Vertex → List Vertex → Type 0
ListTheSame old new = (e n : ℕ) → lists new e n ≡ lists old e n

-- the pairs that pass the test are listed too, and no other pair's listing changes
abbrev pub ListsMore : (ℕ → ℕ → Bool) → List Vertex → List Vertex → Type 0
ListsMore test old new = (e n : ℕ) → lists new e n ≡ (test e n || lists old e n)

-- the pairs that pass the test are no longer listed, and no other pair's listing changes
abbrev pub ListsLess : (ℕ → ℕ → Bool) → List Vertex → List Vertex → Type 0
ListsLess test old new = (e n : ℕ) → lists new e n ≡ (not (test e n) && lists old e n)

-- the events stay, and each stays in its slot
pub record KeepsEvents (old new : Table Vertex) : Type 0 where
  pub events : events_of new.values ≡ events_of old.values
  pub slots : new.numbers ≡ old.numbers

-- whether the event is an end of the activity, and the number its number
abbrev pub is_pair_of : Activity → ℕ → ℕ → Bool
is_pair_of a e n = is_end_of e a && a.id == n

-- whether the event is an end of the activity no more, and the number its number
abbrev pub is_old_pair_of : Activity → Activity → ℕ → ℕ → Bool
is_old_pair_of old new e n = (is_end_of e old && not (is_end_of e new)) && old.id == n

-- whether there is an activity, and the event is an end of it
abbrev pub is_end_in : ℕ → Option Activity → Bool
is_end_in e None = false
is_end_in e (Some a) = is_end_of e a

-- each activity is listed at its ends, and nothing else is listed
abbrev pub AreListed : List Vertex → List Activity → Type 0
AreListed vertices activities = (e n : ℕ) → lists vertices e n ≡ is_end_in e (with_number (λ a. a.id) n activities)

-- the numbers that a vertex lists, and none where there is no vertex
abbrev pub numbers_at : Option Vertex → List ℕ
numbers_at None = []
numbers_at (Some x) = x.activities.keys

-- the numbers that are left to be walked over, and none where there is no walk
abbrev pub numbers_left : Option (List ℕ) → List ℕ
numbers_left None = []
numbers_left (Some numbers) = numbers

-- the activities that the numbers name
abbrev pub named_by : List Activity → List ℕ → List Activity
named_by activities numbers = filter_map (λ n. with_number (λ a. a.id) n activities) numbers

-- each number names an activity
abbrev pub AreNames : List Activity → List ℕ → Type 0
AreNames activities [] = Unit {0}
AreNames activities (n ∷ numbers) = IsSome (with_number (λ a. a.id) n activities) × AreNames activities numbers
