-- Places that stood for an instance stand for the edited one, once they are changed as it is.
use Rattle.std.proofs.Common.{◌≡◌, ◌≢◌, ℕ, ◌<◌, ◌==◌, true, false, if◌then◌else◌, List, [], ◌∷◌, length, filter, find, Option, Some, None, option_map, is_some, Ok, refl, sym, ap, subst, ◌∙◌, inl, inr, arith}
use Rattle.std.proofs.Math.Bool.{or-true}
use Rattle.std.specs.List.{Contains}
use Rattle.std.specs.Result.{is_ok}
use Rattle.std.proofs.lemmas.Bool.{eq-eqb, false≢true, ne_eqb}
use Rattle.pesp_base.specs.declared.activity.Activity.{Activity}
use Rattle.pesp_base.specs.Refusals.{unless_refused}
use Rattle.pesp_instance.specs.declared.edit.Edit.TheVariants as edits
use Rattle.pesp_instance.specs.Edited.{edited, effect}
use Rattle.pesp_instance.specs.Network.{Network, is_end_of, new_event}
use Rattle.pesp_instance.proofs.Effects.{find-none}
use Rattle.pesp_instance.proofs.Numbers.{activity_number as id_of}
use Rattle.pesp_domains.proofs.Edits.{has_out, has_put as has_event_put}
use Rattle.pesp_domains.proofs.Families.{in_filter, not_in_none}
use Rattle.pesp_domains.specs.declared.side.Side.{Side}
use Rattle.pesp_domains.specs.declared.side.Side.TheVariants.{Tail, Head}
use Rattle.pesp_domains.specs.Domains.{own}
use Rattle.pesp_counts_arcs.specs.declared.end.End.{End}
use Rattle.pesp_counts_arcs.specs.Ends.{ends_of}
use Rattle.pesp_counts_arcs.specs.Links.{AreHoused, Links, LookSame, StandFor}
use Rattle.pesp_counts_arcs.specs.Lists.{AreShared, AreStored}
use Rattle.pesp_counts_arcs.specs.Places.{ArePlaces, Places, place_of}
use Rattle.pesp_counts_arcs.specs.Shared.{Shared}
use Rattle.pesp_counts_arcs.proofs.ListLaws.{shared_same}
use Rattle.pesp_counts_arcs.proofs.StandLaws.{IsAsWas, stands_for, stands_on}

-- ---- what the parts of links hold

-- the lists share the ends
pub shared_ends : (events activities : Places) (ends : List End) (at : Shared) → AreHoused events activities ends at → AreShared (length ends) at.lists
shared_ends events activities ends at h =
    record {
      within = λ p k i.
          let w = h.owned p k i in
          let room = h.activity_room w.0 w.1 w.2 in
          elim w.3 [ inl tail ↦ omega (arith, tail, room) | inr head ↦ omega (arith, head, room) ];
      once = h.listed_in.shared.once;
      apart = h.listed_in.shared.apart;
    }

-- ---- places

pub none_some : (o : Option ℕ) (p : ℕ) → o ≡ None → o ≡ Some p → ⊥
none_some o p none some = cc

-- a number that came has the place, and the others have theirs
module _ (before after : Places) (e p : ℕ) (came : (n : ℕ) → place_of after n ≡ (if n == e then Some p else place_of before n)) where
  pub came_here : place_of after e ≡ Some p
  came_here = came e ∙ rw (eq-eqb e e refl) refl

  pub came_other : (n : ℕ) → n ≢ e → place_of after n ≡ place_of before n
  came_other n apart = came n ∙ rw (ne_eqb n e apart) refl

  pub came_some : (n : ℕ) → is_some (place_of after n) ≡ (if n == e then true else is_some (place_of before n))
  came_some n = let at = came n in grind (arith, at)

-- a number that went has none, and the others have theirs
module _ (before after : Places) (e : ℕ) (went : (n : ℕ) → place_of after n ≡ (if n == e then None else place_of before n)) where
  pub went_other : (n : ℕ) → n ≢ e → place_of after n ≡ place_of before n
  went_other n apart = went n ∙ rw (ne_eqb n e apart) refl

  pub went_some : (n : ℕ) → is_some (place_of after n) ≡ (if n == e then false else is_some (place_of before n))
  went_some n = let at = went n in grind (arith, at)

-- a number that came and went again left all places as they were
pub came_and_went : (before middle after : Places) (e p : ℕ) → place_of before e ≡ None → ((n : ℕ) → place_of middle n ≡ (if n == e then Some p else place_of before n)) → ((n : ℕ) → place_of after n ≡ (if n == e then None else place_of middle n))
    → (n : ℕ) → place_of after n ≡ place_of before n
came_and_went before middle after e p absent came went n = let at = came n in let gone = went n in grind (arith, absent, at, gone)

-- ---- an event more

pub event_added : (I : Network) (before : Links) (events' : Places) (lists' : List (List ℕ)) (e p : ℕ) → place_of before.events e ≡ None → ((n : ℕ) → place_of events' n ≡ (if n == e then Some p else place_of before.events n)) → ArePlaces events'
    → ((q : ℕ) → ends_of lists' q ≡ ends_of before.lists q) → StandFor I before → StandFor (effect I (edits.AddEvent e)) (record before { events = events'; lists = lists' })
event_added I before events' lists' e p absent came paired lists stand =
    stands_on I (effect I (edits.AddEvent e)) before (record before { events = events'; lists = lists' }) refl (λ k. refl) lists
    (λ a there. (a, there, as_was a there)) (λ a there. (a, there, as_was a there)) paired stand.activities
    (λ n. came_some before.events events' e p came n ∙ ap (λ b. if n == e then true else b) (stand.of_events n) ∙ sym (has_event_put I.events (new_event e) n))
    stand.of_activities
    (shared_same (length before.ends) before.lists lists' lists stand.shared)
    stand
  where
    as_was : (a : Activity) → Contains I.activities a → IsAsWas before (record before { events = events'; lists = lists' }) a a
    as_was a there = record {
      numbered = refl;
      events = λ side.
          let at = (stand.all side a there).2.at in
          let new = came (own side a) in
          grind (arith, at, new, absent);
      span = refl;
    }

-- ---- an event less

second_none : {R : Type 0} (first second : Option R) (x y : Network) → unless_refused (first ∷ second ∷ []) x ≡ Ok y → second ≡ None
second_none None None x y ok = refl
second_none None (Some refusal) x y ok = absurd (false≢true (ap is_ok ok))
second_none (Some refusal) second x y ok = absurd (false≢true (ap is_ok ok))

map_none : {R : Type 0} (f : Activity → R) (o : Option Activity) → option_map f o ≡ None → o ≡ None
map_none f None is = refl
map_none f (Some a) is = absurd (cc)

either_end : (side : Side) (e : ℕ) (a : Activity) → own side a ≡ e → is_end_of e a ≡ true
either_end Tail e a same = rw (eq-eqb a.from e same) refl
either_end Head e a same = rw (eq-eqb a.to e same) (or-true (a.from == e))

-- an event that is dropped is no end of an activity
unused : (I J : Network) (e : ℕ) → edited I (edits.DropEvent e) ≡ Ok J → (side : Side) (a : Activity) → Contains I.activities a → own side a ≢ e
unused I J e ok side a there same =
    let not_found = map_none _ (find (is_end_of e) I.activities) (second_none _ _ (effect I (edits.DropEvent e)) J ok) in
    let none : filter (is_end_of e) I.activities ≡ [] = find-none e I.activities (ap (option_map id_of) not_found) in
    not_in_none a (subst (λ xs. Contains xs a) none (in_filter (is_end_of e) I.activities a there (either_end side e a same)))

pub event_dropped : (I J : Network) (before : Links) (events' : Places) (e : ℕ) → edited I (edits.DropEvent e) ≡ Ok J → ((n : ℕ) → place_of events' n ≡ (if n == e then None else place_of before.events n)) → ArePlaces events' → StandFor I before → StandFor J (record before { events = events' })
event_dropped I J before events' e ok went paired stand =
    stands_for I J (edits.DropEvent e) (record before { events = events' }) ok
    (stands_on I (effect I (edits.DropEvent e)) before (record before { events = events' }) refl (λ k. refl) (λ p. refl)
    (λ a there. (a, there, as_was a there)) (λ a there. (a, there, as_was a there)) paired stand.activities
    (λ n. went_some before.events events' e went n ∙ ap (λ b. if n == e then false else b) (stand.of_events n) ∙ sym (has_out I.events e n))
    stand.of_activities stand.shared stand)
  where
    as_was : (a : Activity) → Contains I.activities a → IsAsWas before (record before { events = events' }) a a
    as_was a there = record { numbered = refl; events = λ side. went_other before.events events' e went (own side a) (unused I J e ok side a there); span = refl }

-- ---- what is refused

-- places that are looked up as before, and lists with the same items
pub look_same : (events events' activities activities' : Places) (ends : List End) (at : Shared) (lists : List (List ℕ)) → AreHoused events activities ends at → ArePlaces events' → ArePlaces activities'
    → ((e : ℕ) → place_of events' e ≡ place_of events e) → ((n : ℕ) → place_of activities' n ≡ place_of activities n) → ((p : ℕ) → ends_of lists p ≡ ends_of at.lists p)
    → LookSame (record { events = events; activities = activities; ends = ends; lists = at.lists }) (record { events = events'; activities = activities'; ends = ends; lists = lists })
look_same events events' activities activities' ends at lists h paired paired' same same' items =
    record {
      events = same;
      activities = same';
      are_events = paired;
      are_activities = paired';
      ends = λ k. refl;
      lists = items;
      shared = shared_same (length ends) at.lists lists items (shared_ends events activities ends at h);
    }

pub look_itself : (events activities : Places) (ends : List End) (at : Shared) → AreHoused events activities ends at → LookSame (record { events = events; activities = activities; ends = ends; lists = at.lists }) (record { events = events; activities = activities; ends = ends; lists = at.lists })
look_itself events activities ends at h = look_same events events activities activities ends at at.lists h h.are_events h.are_activities (λ e. refl) (λ n. refl) (λ p. refl)

-- more lists, and events in their reach
pub housed_events : (events events' activities : Places) (ends : List End) (at at' : Shared) → AreHoused events activities ends at → ArePlaces events' → at'.items ≡ at.items → ((p : ℕ) → ends_of at'.lists p ≡ ends_of at.lists p) → AreStored at'.items at'.lists
    → ((e p : ℕ) → place_of events' e ≡ Some p → p < length at'.lists) → AreHoused events' activities ends at'
housed_events events events' activities ends at at' h paired items lists stored room =
    record {
      are_events = paired;
      are_activities = h.are_activities;
      listed_in = stored;
      items = (let few = h.items in omega (arith, few, items));
      event_room = room;
      activity_room = h.activity_room;
      owned = λ p k i. h.owned p k (subst (λ xs. Contains xs k) (lists p) i);
    }
