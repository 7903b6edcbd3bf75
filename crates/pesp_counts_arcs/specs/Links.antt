-- Places for the events and activities of an instance, and the ends that stand for the activities' ends.
use Rattle.std.specs.Prelude.{◌≡◌, ◌⊎◌, ℕ, ◌+◌, ◌*◌, ◌<◌, ◌≤◌, ◌↔◌, IsTrue, List, [], Some, is_some, length}
use Rattle.std.specs.List.{Contains}
use Rattle.pesp_base.specs.declared.activity.Activity.{Activity}
use Rattle.pesp_base.specs.Bounds.{Bounds}
use Rattle.pesp_base.specs.Tensions.{IsMet}
use Rattle.pesp_instance.specs.Network.{Network, activity_of, has_event}
use Rattle.pesp_domains.specs.declared.side.Side.{Side}
use Rattle.pesp_domains.specs.declared.side.Side.TheVariants.{Tail, Head}
use Rattle.pesp_domains.specs.Domains.{Joins, other, own}
use Rattle.pesp_counts_arcs.specs.declared.end.End.{End}
use Rattle.pesp_counts_arcs.specs.Ends.{end_at, ends_of, passes}
use Rattle.pesp_counts_arcs.specs.Lists.{AreShared, AreStored}
use Rattle.pesp_counts_arcs.specs.Places.{ArePlaces, Places, place_of}
use Rattle.pesp_counts_arcs.specs.Shared.{Shared}

-- places of events and of activities, the ends by their numbers, and the numbers of the ends at the place of each event
pub record Links : Type 0 where
  pub events : Places
  pub activities : Places
  pub ends : List End
  pub lists : List (List ℕ)

abbrev pub opposite : Side → Side
opposite Tail = Head
opposite Head = Tail

-- the ends of the activity at a place have the numbers 2q and 2q + 1
abbrev pub end_number : Side → ℕ → ℕ
end_number Tail q = 2 * q
end_number Head q = 2 * q + 1

-- this end of the activity, which has place q, is listed at place p, looks at the event at the other end, and passes what the activity joins
pub record IsEndOf (period : ℕ) (links : Links) (side : Side) (a : Activity) (p q : ℕ) : Type 0 where
  pub numbered : place_of links.activities a.id ≡ Some q
  pub at : place_of links.events (own side a) ≡ Some p
  pub listed : Contains (ends_of links.lists p) (end_number side q)
  pub looks : place_of links.events (other side a) ≡ Some (end_at links.ends (end_number side q)).looks_at
  pub mate : (end_at links.ends (end_number side q)).mate ≡ end_number (opposite side) q
  pub first : (end_at links.ends (end_number side q)).first < period
  pub some : 0 < (end_at links.ends (end_number side q)).width
  pub width : (end_at links.ends (end_number side q)).width ≤ period
  pub joins : (r s : ℕ) → r < period → s < period → IsTrue (passes period (end_at links.ends (end_number side q)) r s) ↔ Joins side period a r s

-- an end that is listed at a place, as one of an activity of the instance
pub record IsListed (I : Network) (links : Links) (p k : ℕ) : Type 0 where
  pub side : Side
  pub activity : Activity
  pub place : ℕ
  pub there : Contains I.activities activity
  pub number : k ≡ end_number side place
  pub is_end : IsEndOf I.period links side activity p place

-- each event and each activity has a place, each end of an activity is listed at its event's place, and no other end is listed
pub record StandFor (I : Network) (links : Links) : Type 0 where
  pub events : ArePlaces links.events
  pub activities : ArePlaces links.activities
  pub of_events : (e : ℕ) → is_some (place_of links.events e) ≡ has_event I e
  pub of_activities : (n : ℕ) → is_some (place_of links.activities n) ≡ is_some (activity_of I n)
  pub shared : AreShared (length links.ends) links.lists
  pub all : (side : Side) (a : Activity) → Contains I.activities a → (p : ℕ) × (q : ℕ) × IsEndOf I.period links side a p q
  pub only : (p k : ℕ) → Contains (ends_of links.lists p) k → IsListed I links p k

-- nothing has a place
abbrev pub no_links : Links
no_links = record { events = record { numbers = [] }; activities = record { numbers = [] }; ends = []; lists = [] }

-- all that is looked up is as before
pub record LookSame (before after : Links) : Type 0 where
  pub events : (e : ℕ) → place_of after.events e ≡ place_of before.events e
  pub activities : (n : ℕ) → place_of after.activities n ≡ place_of before.activities n
  pub are_events : ArePlaces after.events
  pub are_activities : ArePlaces after.activities
  pub ends : (k : ℕ) → end_at after.ends k ≡ end_at before.ends k
  pub lists : (p : ℕ) → ends_of after.lists p ≡ ends_of before.lists p
  pub shared : AreShared (length after.ends) after.lists

-- the number is that of an end of the activity at a place
abbrev pub IsEndOfPlace : ℕ → ℕ → Type 0
IsEndOfPlace q k = (k ≡ 2 * q) ⊎ (k ≡ 2 * q + 1)

-- listed ends are as before, but for the two of one activity
pub record IsChangedAt (before after : Links) (q : ℕ) : Type 0 where
  pub events : (e : ℕ) → place_of after.events e ≡ place_of before.events e
  pub listed : (p k : ℕ) → Contains (ends_of after.lists p) k → (IsEndOfPlace q k → ⊥) → Contains (ends_of before.lists p) k
  pub ends : (k : ℕ) → (IsEndOfPlace q k → ⊥) → end_at after.ends k ≡ end_at before.ends k

-- ---- the two ends of one activity

-- an activity of this span joins residue r at this end to s at the other
abbrev pub JoinsBy : Side → ℕ → Bounds → ℕ → ℕ → Type 0
JoinsBy Tail period span r s = IsMet period span r s
JoinsBy Head period span r s = IsMet period span s r

-- the end passes what an activity of this span joins
pub record IsEndFor (period : ℕ) (span : Bounds) (side : Side) (end : End) : Type 0 where
  pub first : end.first < period
  pub some : 0 < end.width
  pub width : end.width ≤ period
  pub joins : (r s : ℕ) → IsTrue (passes period end r s) ↔ JoinsBy side period span r s

-- the ends of the activity at a place are mates and look at the places of its events
pub record LookAt (ends : List End) (q tail_at head_at : ℕ) : Type 0 where
  pub tail_looks : (end_at ends (2 * q)).looks_at ≡ head_at
  pub head_looks : (end_at ends (2 * q + 1)).looks_at ≡ tail_at
  pub tail_mate : (end_at ends (2 * q)).mate ≡ 2 * q + 1
  pub head_mate : (end_at ends (2 * q + 1)).mate ≡ 2 * q

-- as many ends as before, and those but the two of one activity are as they were
pub record KeepOthers (before after : List End) (q : ℕ) : Type 0 where
  pub many : length after ≡ length before
  pub others : (k : ℕ) → (IsEndOfPlace q k → ⊥) → end_at after k ≡ end_at before k

-- the two ends of an activity came to the lists at these places
pub record AreListedAt (before after : List (List ℕ)) (q tail_at head_at : ℕ) : Type 0 where
  pub many : length after ≡ length before
  pub tail : Contains (ends_of after tail_at) (2 * q)
  pub head : Contains (ends_of after head_at) (2 * q + 1)
  pub stays : (p k : ℕ) → Contains (ends_of before p) k → Contains (ends_of after p) k
  pub was : (p k : ℕ) → Contains (ends_of after p) k → (((p ≡ tail_at) × (k ≡ 2 * q)) ⊎ ((p ≡ head_at) × (k ≡ 2 * q + 1))) ⊎ Contains (ends_of before p) k

-- the two ends of an activity went from the lists
pub record AreUnlisted (before after : List (List ℕ)) (q : ℕ) : Type 0 where
  pub many : length after ≡ length before
  pub gone : (p k : ℕ) → Contains (ends_of after p) k → IsEndOfPlace q k → ⊥
  pub stays : (p k : ℕ) → Contains (ends_of before p) k → (IsEndOfPlace q k → ⊥) → Contains (ends_of after p) k
  pub was : (p k : ℕ) → Contains (ends_of after p) k → Contains (ends_of before p) k

-- the places are places, those of events have lists and those of activities two ends, and only ends of activities with a place are listed
pub record AreHoused (events activities : Places) (ends : List End) (at : Shared) : Type 0 where
  pub are_events : ArePlaces events
  pub are_activities : ArePlaces activities
  pub listed_in : AreStored at.items at.lists
  pub items : length ends ≤ at.items
  pub event_room : (e p : ℕ) → place_of events e ≡ Some p → p < length at.lists
  pub activity_room : (n q : ℕ) → place_of activities n ≡ Some q → 2 * q + 1 < length ends
  pub owned : (p k : ℕ) → Contains (ends_of at.lists p) k → (n : ℕ) × (q : ℕ) × (place_of activities n ≡ Some q) × IsEndOfPlace q k
