-- What an edit asks of rows and counts, and what the keeper makes of it.
use Rattle.std.specs.Prelude.{◌≡◌, ◌≢◌, ℕ, ◌<◌, ◌*◌, false, IsTrue, List, [], length, All, AllPairs, Option, Some, None, option_map, Ok}
use Rattle.std.specs.List.{Contains}
use Rattle.pesp_base.specs.declared.activity.Activity.{Activity}
use Rattle.pesp_instance.specs.declared.edit.Edit.{Edit}
use Rattle.pesp_instance.specs.declared.edit.Edit.TheVariants.{AddEvent, DropEvent, Fix, SetWindow, Unfix, AddActivity, DropActivity, SetSpan, SetWeight, SetEnds}
use Rattle.pesp_instance.specs.Edited.{edited}
use Rattle.pesp_instance.specs.Network.{Network, admits}
use Rattle.pesp_domains.specs.declared.side.Side.{Side}
use Rattle.pesp_domains.specs.Sweeps.{Of, Pairs, narrowed_to}
use Rattle.pesp_counts_arcs.specs.Ends.{end_at, ends_of}
use Rattle.pesp_counts_arcs.specs.Links.{Links, StandFor, end_number}
use Rattle.pesp_counts_arcs.specs.Places.{place_of}
use Rattle.pesp_counts_supports.specs.declared.trail.Placed.{Placed}
use Rattle.pesp_counts_supports.specs.Counts.{IsLiveAt, KeepsClosed, has_at}
use Rattle.pesp_counts_supports.specs.Resting.{AreAtRest}
use Rattle.pesp_counts_supports.specs.Restored.{AreExactBut}
use Rattle.pesp_counts_supports.specs.Restoring.{IsRestored, is_spared}
use Rattle.pesp_counts_supports.specs.Supports.{AreLevel, AreOut, HaveSameShape, Supports, is_in, without_those}
use Rattle.pesp_counts.specs.declared.keeper.change.Change.{Change}
use Rattle.pesp_counts.specs.declared.keeper.change.PlacedEvent.{PlacedEvent}
use Rattle.pesp_counts.specs.declared.keeper.change.Starts.{Starts}
use Rattle.pesp_counts.specs.declared.keeper.change.Starts.TheVariants.{Nowhere, At, AtBoth}
use Rattle.pesp_counts.specs.declared.keeper.counted.Counted.{Counted}
use Rattle.pesp_counts.specs.Keeping.{AreFor, AreSettled}
use Rattle.pesp_counts.specs.Reached.{Reached, is_edited, starts}
use Rattle.pesp_counts.specs.Works.{IsWorked, KeepPlaces}

-- ---- the change of an edit

abbrev pub places : Starts → List ℕ
places Nowhere = []
places (At ps) = ps
places (AtBoth ps) = ps

abbrev pub event_at : ℕ → ℕ → PlacedEvent
event_at e p = record { event = e; place = p }

-- the event of which the edit changes the window
abbrev pub limited_by : Edit → Option ℕ
limited_by (Fix e t) = Some e
limited_by (SetWindow e first length) = Some e
limited_by (Unfix e) = Some e
limited_by (AddEvent e) = None
limited_by (DropEvent e) = None
limited_by (AddActivity a) = None
limited_by (DropActivity n) = None
limited_by (SetSpan n span) = None
limited_by (SetWeight n weight) = None
limited_by (SetEnds n from to) = None

-- the place of the activity of which the edit changes the ends
abbrev pub recounted_by : Links → Edit → Option ℕ
recounted_by links (SetSpan n span) = place_of links.activities n
recounted_by links (SetEnds n from to) = place_of links.activities n
recounted_by links (Fix e t) = None
recounted_by links (SetWindow e first length) = None
recounted_by links (Unfix e) = None
recounted_by links (AddEvent e) = None
recounted_by links (DropEvent e) = None
recounted_by links (AddActivity a) = None
recounted_by links (DropActivity n) = None
recounted_by links (SetWeight n weight) = None

-- the places are those of the events at which chains begin
pub record AreStarts (I : Network) (edit : Edit) (links : Links) (places : List ℕ) : Type 0 where
  pub each : (e p : ℕ) → Contains (starts I edit) e → place_of links.events e ≡ Some p → Contains places p
  pub only : (p : ℕ) → Contains places p → (e : ℕ) × Contains (starts I edit) e × (place_of links.events e ≡ Some p)

-- the change has the places of all that the edit names
pub record IsChange (I : Network) (edit : Edit) (links : Links) (change : Change) : Type 0 where
  pub starts : AreStarts I edit links (places change.loosened)
  pub window : option_map (λ (w : PlacedEvent). w.event) change.limited ≡ limited_by edit
  pub limited : (w : PlacedEvent) → change.limited ≡ Some w → place_of links.events w.event ≡ Some w.place
  pub recounted : change.recounted ≡ recounted_by links edit

-- ---- the links follow

-- the links stand for the edited instance: events have the places that they had, but for one that is dropped, and ends but the spared ones are as they were
pub record IsRelinked (J : Network) (edit : Edit) (before after : Links) (spared : Option ℕ) : Type 0 where
  pub stand : StandFor J after
  pub events : (e : ℕ) → (edit ≡ DropEvent e → ⊥) → place_of after.events e ≡ place_of before.events e
  pub listed : (p k : ℕ) → Contains (ends_of after.lists p) k → is_spared spared k ≡ false → Contains (ends_of before.lists p) k
  pub ends : (p k : ℕ) → Contains (ends_of after.lists p) k → is_spared spared k ≡ false → end_at after.ends k ≡ end_at before.ends k
  pub tail : (q : ℕ) → spared ≡ Some q → (p : ℕ) × Contains (ends_of after.lists p) (2 * q)

-- the activities but the edited one are as before, and theirs are the ends that are not spared
pub record AreSpared (I J : Network) (edit : Edit) (links : Links) (spared : Option ℕ) : Type 0 where
  pub stays : (a : Activity) → Contains I.activities a → is_edited edit a ≡ false → Contains J.activities a
  pub apart : (side : Side) (a : Activity) (q : ℕ) → Contains I.activities a → is_edited edit a ≡ false → place_of links.activities a.id ≡ Some q → is_spared spared (end_number side q) ≡ false
  pub was : (side : Side) (a : Activity) (q : ℕ) → Contains J.activities a → place_of links.activities a.id ≡ Some q → is_spared spared (end_number side q) ≡ false → Contains I.activities a × (is_edited edit a ≡ false)

-- the links stand for the edited instance, no end is listed anew, and where pairs may come back the activities but the edited one are as before
pub record HaveFollowed (I J : Network) (edit : Edit) (before after : Links) : Type 0 where
  pub relinked : IsRelinked J edit before after (recounted_by before edit)
  pub known : (p k : ℕ) → Contains (ends_of after.lists p) k → (q : ℕ) × Contains (ends_of before.lists q) k
  pub spared : (e : ℕ) → Contains (starts I edit) e → AreSpared I J edit after (recounted_by before edit)

-- ---- pairs come and go

-- the rows were the domains of the instance before the edit, and nothing is known any more of what was taken out
pub record WereSettled (I J : Network) (edit : Edit) (links : Links) (s : Supports) : Type 0 where
  pub made : edited I edit ≡ Ok J
  pub settled : AreSettled I [] links s
  pub trail : s.trail ≡ []

-- at the listed ends but the spared ones nothing waits to be counted out, and nothing was taken out yet
pub record AreAtRestBut (links : Links) (s : Supports) (spared : Option ℕ) : Type 0 where
  pub exact : AreExactBut links spared s (has_at s.counted)
  pub live : (p k : ℕ) → Contains (ends_of links.lists p) k → is_spared spared k ≡ false → IsLiveAt s.period s.counts (has_at s.rows) p k
  pub level : AreLevel s
  pub below : (p r : ℕ) → Of (has_at s.rows) p r → r < s.period
  pub trail : s.trail ≡ []

-- the links stand for the edited instance, and all is at rest but the ends of the change
pub record IsReady (J : Network) (links : Links) (s : Supports) (change : Change) : Type 0 where
  pub fits : AreFor J links s
  pub rest : AreAtRestBut links s change.recounted
  pub starts : All (λ p. p < length s.rows) (places change.loosened)
  pub limited : (w : PlacedEvent) → change.limited ≡ Some w → place_of links.events w.event ≡ Some w.place
  pub listed : (q : ℕ) → change.recounted ≡ Some q → (p : ℕ) × Contains (ends_of links.lists p) (2 * q)

-- at the listed ends but the spared ones pairs of the rows but those of a list have counts above 0, and what was taken out of the rows waits in the trail
pub record AreWaitingBut (links : Links) (s : Supports) (spared : Option ℕ) (back : List Placed) : Type 0 where
  pub exact : AreExactBut links spared s (has_at s.counted)
  pub live : (p k : ℕ) → Contains (ends_of links.lists p) k → is_spared spared k ≡ false → IsLiveAt s.period s.counts (without_those (has_at s.rows) back) p k
  pub within : (p r : ℕ) → Of (has_at s.rows) p r → Of (has_at s.counted) p r
  pub waiting : (p r : ℕ) → Of (has_at s.counted) p r → has_at s.rows p r ≡ false → IsTrue (is_in s.trail p r)
  pub below : (p r : ℕ) → Of (has_at s.rows) p r → r < s.period
  pub out : AreOut s s.trail

-- of these pairs those that the window of an event leaves, if one is given
abbrev pub left : Network → Option PlacedEvent → Pairs → Pairs
left J None S = S
left J (Some w) S = narrowed_to S w.place (admits J w.event)

-- what is reached by place came to the rows, and of those that the window leaves what has no partner went
pub record IsPutBack (J : Network) (links : Links) (change : Change) (s n : Supports) (back : List Placed) : Type 0 where
  pub middle : Supports
  pub restored : IsRestored J links (places change.loosened) change.recounted s middle back
  pub keeps : KeepsClosed n.period links.ends links.lists (left J change.limited (has_at middle.rows)) (has_at n.rows)
  pub rest : AreAtRest links n
  pub shape : HaveSameShape s n

-- ---- what came of it

-- the list has the pairs that the edit reaches, by place, each once
pub record AreReached (I : Network) (edit : Edit) (links : Links) (back : List Placed) : Type 0 where
  pub all : (e p r : ℕ) → place_of links.events e ≡ Some p → Reached I edit e r → IsTrue (is_in back p r)
  pub only : (p r : ℕ) → IsTrue (is_in back p r) → (e : ℕ) × (place_of links.events e ≡ Some p) × Reached I edit e r
  pub once : AllPairs (λ x y. x ≢ y) back

-- the rows are the domains after the edit, and what it reaches was put back
pub record IsFollowed (I J : Network) (edit : Edit) (before after : Links) (s n : Supports) (back : List Placed) : Type 0 where
  pub settled : AreSettled J [] after n
  pub reached : AreReached I edit after back
  pub worked : IsWorked after s n back
  pub places : KeepPlaces J before after n.trail

-- what is counted is that of the instance before the edit
abbrev pub IsBefore : Network → Network → Edit → Counted → Type 0
IsBefore I J edit before = WereSettled I J edit before.links before.supports

-- from there, places, rows and counts followed it
abbrev pub Follows : Network → Network → Edit → Counted → Counted → Type 0
Follows I J edit before after = IsBefore I J edit before → IsFollowed I J edit before.links after.links before.supports after.supports after.back.items

-- the rows are still the domains before the edit
abbrev pub Stays : Network → Network → Edit → Counted → Counted → Type 0
Stays I J edit before after = IsBefore I J edit before → AreSettled I [] after.links after.supports
