-- An activity comes, with its two ends.
use Rattle.std.proofs.Common.{◌≡◌, ◌≢◌, ◌⊎◌, ℕ, ◌+◌, ◌*◌, ◌<◌, ◌≤◌, ◌==◌, true, if◌then◌else◌, List, length, Some, None, Ok, refl, sym, ap, subst, ◌∙◌, inl, inr, arith}
use Rattle.std.specs.List.{Contains}
use Rattle.pesp_base.specs.declared.activity.Activity.{Activity}
use Rattle.pesp_base.specs.Numbered.{put_in}
use Rattle.pesp_instance.specs.declared.edit.Edit.TheVariants as edits
use Rattle.pesp_instance.specs.Edited.{edited, effect}
use Rattle.pesp_instance.specs.Network.{Network}
use Rattle.pesp_instance.proofs.Numbers.{activity_number as id_of}
use Rattle.pesp_domains.specs.declared.side.Side.{Side}
use Rattle.pesp_domains.specs.declared.side.Side.TheVariants.{Tail, Head}
use Rattle.pesp_domains.specs.Domains.{own}
use Rattle.pesp_counts_arcs.specs.declared.end.End.{End}
use Rattle.pesp_counts_arcs.specs.Ends.{end_at, ends_of}
use Rattle.pesp_counts_arcs.specs.Links.{AreHoused, AreListedAt, IsEndFor, IsEndOf, IsEndOfPlace, Links, LookAt, StandFor, end_number}
use Rattle.pesp_counts_arcs.specs.Lists.{AreShared, AreStored}
use Rattle.pesp_counts_arcs.specs.Places.{ArePlaces, Places, number_at, place_of}
use Rattle.pesp_counts_arcs.specs.Shared.{Shared}
use Rattle.pesp_counts_arcs.proofs.StandAround.{looks_at, looks_by, made_joins, mate_by, stands_around}
use Rattle.pesp_counts_arcs.proofs.StandEdits.{came_here, came_other, came_some, none_some}
use Rattle.pesp_counts_arcs.proofs.StandLaws.{by_side, has_put, stands_for}
use Rattle.pesp_counts_arcs.proofs.StandMembers.{in_put_in, new_put_in, of_put_in}

-- the one end of a pair that came, or an end that was there
pub listed_by : (before after : List (List ℕ)) (q : ℕ) (at : Side → ℕ) → AreListedAt before after q (at Tail) (at Head) → (side : Side) → Contains (ends_of after (at side)) (end_number side q)
listed_by before after q at listed = by_side (λ s. Contains (ends_of after (at s)) (end_number s q)) listed.tail listed.head

pub new_or_old : (before after : List (List ℕ)) (q a b p k : ℕ) → AreListedAt before after q a b → Contains (ends_of after p) k → IsEndOfPlace q k ⊎ Contains (ends_of before p) k
new_or_old before after q a b p k listed i =
    elim (listed.was p k i) [
      | inl new ↦ inl (elim new [ inl tail ↦ inl tail.1 | inr head ↦ inr head.1 ])
      | inr old ↦ inr old
    ]

pub was_listed : (before after : List (List ℕ)) (q a b p k : ℕ) → AreListedAt before after q a b → Contains (ends_of after p) k → (IsEndOfPlace q k → ⊥) → Contains (ends_of before p) k
was_listed before after q a b p k listed i out = elim (new_or_old before after q a b p k listed i) [ inl new ↦ absurd (out new) | inr old ↦ old ]

-- a place that no number has
no_place : (places : Places) (n q : ℕ) → ArePlaces places → number_at places q ≡ None → place_of places n ≡ Some q → ⊥
no_place places n q paired free at = none_some (number_at places q) n free ((paired.paired n q).0 at)

-- the ends at a place that no activity has are in no list
pub unlisted_yet : (events activities : Places) (ends : List End) (at : Shared) (q : ℕ) → AreHoused events activities ends at → number_at activities q ≡ None → (p k : ℕ) → Contains (ends_of at.lists p) k → IsEndOfPlace q k → ⊥
unlisted_yet events activities ends at q h free p k i end =
    let w = h.owned p k i in
    let one : w.1 ≡ q = grind (arith, w.3, end) in
    no_place activities w.0 q h.are_activities free (w.2 ∙ ap (λ r. Some r) one)

-- more room for ends, and places of activities that are looked up as before
pub housed_room : (events activities activities' : Places) (ends : List End) (at at' : Shared) → AreHoused events activities ends at → ArePlaces activities' → ((n : ℕ) → place_of activities' n ≡ place_of activities n) → length ends ≤ at'.items → at'.lists ≡ at.lists → AreStored at'.items at'.lists → AreHoused events activities' ends at'
housed_room events activities activities' ends at at' h paired same items lists stored =
    record {
      are_events = h.are_events;
      are_activities = paired;
      listed_in = stored;
      items = items;
      event_room = λ e p is. subst (λ xs. p < length xs) (sym lists) (h.event_room e p is);
      activity_room = λ n q is. h.activity_room n q (sym (same n) ∙ is);
      owned = λ p k i.
          let w = h.owned p k (subst (λ xs. Contains (ends_of xs p) k) lists i) in
          (w.0, w.1, same w.0 ∙ w.2, w.3);
    }

-- an activity more, whose ends are listed
pub housed_more : (events activities activities' : Places) (ends ends' : List End) (at at' : Shared) (n q a b : ℕ) → AreHoused events activities ends at → place_of activities n ≡ None → ArePlaces activities' → ((m : ℕ) → place_of activities' m ≡ (if m == n then Some q else place_of activities m))
    → length ends ≤ length ends' → 2 * q + 1 < length ends' → length ends' ≤ at'.items → AreListedAt at.lists at'.lists q a b → AreStored at'.items at'.lists → AreHoused events activities' ends' at'
housed_more events activities activities' ends ends' at at' n q a b h absent paired came more room items listed stored =
    record {
      are_events = h.are_events;
      are_activities = paired;
      listed_in = stored;
      items = items;
      event_room = λ e p is. let low = h.event_room e p is in omega (arith, low, listed.many);
      activity_room = λ m r is.
          let at = came m in
          let low = h.activity_room m r in
          grind (arith, at, low, is, more, room);
      owned = λ p k i.
          elim (new_or_old at.lists at'.lists q a b p k listed i) [
            | inl new ↦ (n, q, came_here activities activities' n q came, new)
            | inr old ↦
                let w = h.owned p k old in
                let apart : w.0 ≢ n = λ same. none_some (place_of activities w.0) w.1 (ap (place_of activities) same ∙ absent) w.2 in
                (w.0, w.1, came_other activities activities' n q came w.0 apart ∙ w.2, w.3)
          ];
    }

module _ (I : Network) (before : Links) (activities' : Places) (ends' : List End) (lists' : List (List ℕ)) (a : Activity) (q : ℕ) (at : Side → ℕ)
    (absent : place_of before.activities a.id ≡ None)
    (came : (m : ℕ) → place_of activities' m ≡ (if m == a.id then Some q else place_of before.activities m))
    (paired : ArePlaces activities')
    (free : number_at before.activities q ≡ None)
    (events : (side : Side) → place_of before.events (own side a) ≡ Some (at side))
    (others : (k : ℕ) → (IsEndOfPlace q k → ⊥) → end_at ends' k ≡ end_at before.ends k)
    (made : (side : Side) → IsEndFor I.period a.span side (end_at ends' (end_number side q)))
    (look : LookAt ends' q (at Tail) (at Head))
    (listed : AreListedAt before.lists lists' q (at Tail) (at Head))
    (shared : AreShared (length ends') lists')
    (stand : StandFor I before) where
  new_end : (side : Side) → IsEndOf I.period (record before { activities = activities'; ends = ends'; lists = lists' }) side a (at side) q
  new_end side = record {
    numbered = came_here before.activities activities' a.id q came;
    at = events side;
    listed = listed_by before.lists lists' q at listed side;
    looks = looks_at before.events a at (end_at ends' (end_number side q)) events side (looks_by ends' q at look side);
    mate = mate_by ends' q _ _ look side;
    first = (made side).first;
    some = (made side).some;
    width = (made side).width;
    joins = λ r s rl sl. made_joins I.period side a _ (made side) r s;
  }

  pub put_stands : StandFor (effect I (edits.AddActivity a)) (record before { activities = activities'; ends = ends'; lists = lists' })
  put_stands =
      stands_around I (put_in id_of a I.activities) before (record before { activities = activities'; ends = ends'; lists = lists' }) a.id q
      (λ b. a ≡ b)
      stand refl paired
      (came_other before.activities activities' a.id q came)
      (λ m. came_some before.activities activities' a.id q came m ∙ ap (λ b. if m == a.id then true else b) (stand.of_activities m) ∙ sym (has_put I a m))
      (λ m r apart is same. no_place before.activities m q stand.activities free (is ∙ ap (λ k. Some k) same))
      (λ r is. absurd (none_some (place_of before.activities a.id) r absent is))
      shared others
      (λ p k i out. listed.stays p k i)
      (λ p k i out. was_listed before.lists lists' q _ _ p k listed i out)
      (λ b there_is. elim (of_put_in id_of a I.activities b there_is) [ inl same ↦ inr same | inr old ↦ inl old ])
      (λ b there_is apart. in_put_in id_of a I.activities b there_is apart)
      (λ side b same. (at side, subst (λ c. IsEndOf I.period (record before { activities = activities'; ends = ends'; lists = lists' }) side c (at side) q) same (new_end side)))
      (λ p k i is. (a, new_put_in id_of a I.activities, refl))

  pub activity_added : (J : Network) → edited I (edits.AddActivity a) ≡ Ok J → StandFor J (record before { activities = activities'; ends = ends'; lists = lists' })
  activity_added J ok = stands_for I J (edits.AddActivity a) (record before { activities = activities'; ends = ends'; lists = lists' }) ok put_stands
