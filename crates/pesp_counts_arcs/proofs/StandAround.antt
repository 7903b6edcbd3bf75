-- One activity changes, and the ends of all others stand for them as they did.
use Rattle.std.proofs.Common.{◌≡◌, ◌≢◌, ◌⊎◌, ℕ, ◌+◌, ◌*◌, ◌<◌, ◌==◌, ◌↔◌, IsTrue, true, false, if◌then◌else◌, cond, List, [], ◌∷◌, length, set, Some, None, is_some, Ok, refl, sym, ap, subst, ◌∙◌, inl, inr, arith}
use Rattle.std.specs.List.{Contains}
use Rattle.std.proofs.lemmas.Bool.{cases_eq, eqb-true, false≢true}
use Rattle.std.proofs.lemmas.Grind.{common_steps}
use Rattle.pesp_base.specs.declared.activity.Activity.{Activity}
use Rattle.pesp_base.specs.Bounds.{Bounds}
use Rattle.pesp_base.specs.Numbered.{change_in, take_out, with_number}
use Rattle.pesp_instance.specs.declared.edit.Edit.TheVariants as edits
use Rattle.pesp_instance.specs.Edited.{changed, edited}
use Rattle.pesp_instance.specs.Network.{Network, activity_of}
use Rattle.pesp_instance.proofs.Numbers.{activity_number as id_of}
use Rattle.pesp_domains.proofs.Families.{here, there}
use Rattle.pesp_domains.specs.declared.side.Side.{Side}
use Rattle.pesp_domains.specs.declared.side.Side.TheVariants.{Tail, Head}
use Rattle.pesp_domains.specs.Domains.{Joins, other, own}
use Rattle.pesp_counts_arcs.specs.declared.end.End.{End}
use Rattle.pesp_counts_arcs.specs.Ends.{end_at, ends_of, passes}
use Rattle.pesp_counts_arcs.specs.Links.{AreHoused, AreUnlisted, IsEndFor, IsEndOf, IsEndOfPlace, IsListed, JoinsBy, KeepOthers, Links, LookAt, StandFor, end_number, opposite}
use Rattle.pesp_counts_arcs.specs.Lists.{AreShared, AreStored}
use Rattle.pesp_counts_arcs.specs.Places.{ArePlaces, Places, place_of}
use Rattle.pesp_counts_arcs.specs.Shared.{Shared}
use Rattle.pesp_counts_arcs.proofs.StandEdits.{went_other, went_some}
use Rattle.pesp_counts_arcs.proofs.StandLaws.{IsAsWas, by_side, end_kept, has_changed, has_taken, other_opposite, own_opposite, some_same, stands_for}
use Rattle.pesp_counts_arcs.proofs.StandMembers.{in_change_other, in_change_same, in_take_out, of_change, of_take_out}

-- ---- the numbers of ends

pub end_of_place : (side : Side) (q : ℕ) → IsEndOfPlace q (end_number side q)
end_of_place Tail q = inl refl
end_of_place Head q = inr refl

pub place_of_end : (side : Side) (q r : ℕ) → IsEndOfPlace q (end_number side r) → r ≡ q
place_of_end Tail q r is = grind (arith, is)
place_of_end Head q r is = grind (arith, is)

pub side_of : (q k : ℕ) → IsEndOfPlace q k → (side : Side) × (k ≡ end_number side q)
side_of q k (inl tail) = (Tail, tail)
side_of q k (inr head) = (Head, head)

is_end : (q k : ℕ) → IsEndOfPlace q k ⊎ (IsEndOfPlace q k → ⊥)
is_end q k =
    elim (cases_eq k (2 * q)) [
      | inl tail ↦ inl (inl tail)
      | inr not_tail ↦
          elim (cases_eq k (2 * q + 1)) [
            | inl head ↦ inl (inr head)
            | inr not_head ↦ inr (λ end. elim end [ inl tail ↦ not_tail tail | inr head ↦ not_head head ])
          ]
    ]

-- no two numbers have one place
pub number_same : (places : Places) (m n q : ℕ) → ArePlaces places → place_of places m ≡ Some q → place_of places n ≡ Some q → m ≡ n
number_same places m n q paired left right = some_same m n (sym ((paired.paired m q).0 left) ∙ (paired.paired n q).0 right)

pub apart_places : (places : Places) (m n q r : ℕ) → ArePlaces places → m ≢ n → place_of places n ≡ Some q → place_of places m ≡ Some r → r ≢ q
apart_places places m n q r paired apart at at' same = apart (number_same places m n q paired (at' ∙ ap (λ k. Some k) same) at)

-- ---- the two ends of an activity

-- two ends are written in the place of those of an activity
pub two_written : (ends : List End) (q tail : ℕ) (first second : End) → tail ≡ 2 * q → 2 * q + 1 < length ends → let after = set (set ends tail first) (tail + 1) second in
    KeepOthers ends after q × (end_at after (2 * q) ≡ first) × (end_at after (2 * q + 1) ≡ second)
two_written ends q tail first second is low = (
  record {
    many = grind (arith, common_steps);
    others = λ k out. (let not_tail : k ≢ 2 * q = λ same. out (inl same) in let not_head : k ≢ 2 * q + 1 = λ same. out (inr same) in grind (arith, common_steps, is, not_tail, not_head));
  },
  grind (arith, common_steps, is, low),
  grind (arith, common_steps, is, low),
)

-- the two ends of an activity were made anew
pub two_made : (period : ℕ) (span : Bounds) (ends : List End) (q tail tail_at head_at : ℕ) (first second : End) → tail ≡ 2 * q → 2 * q + 1 < length ends → IsEndFor period span Tail first → IsEndFor period span Head second
    → (first.looks_at ≡ head_at) × (first.mate ≡ tail + 1) → (second.looks_at ≡ tail_at) × (second.mate ≡ tail) → let after = set (set ends tail first) (tail + 1) second in
    KeepOthers ends after q × IsEndFor period span Tail (end_at after (2 * q)) × IsEndFor period span Head (end_at after (2 * q + 1)) × LookAt after q tail_at head_at
two_made period span ends q tail tail_at head_at first second is low made made' looks looks' =
    let w = two_written ends q tail first second is low in (
      w.0,
      subst (IsEndFor period span Tail) (sym w.1) made,
      subst (IsEndFor period span Head) (sym w.2) made',
      record {
        tail_looks = ap (λ (e : End). e.looks_at) w.1 ∙ looks.0;
        head_looks = ap (λ (e : End). e.looks_at) w.2 ∙ looks'.0;
        tail_mate = ap (λ (e : End). e.mate) w.1 ∙ looks.1 ∙ ap (λ k. k + 1) is;
        head_mate = ap (λ (e : End). e.mate) w.2 ∙ looks'.1 ∙ is;
      },
    )

-- ---- all activities but those of one number

module _ (I : Network) (xs : List Activity) (before after : Links) (n q : ℕ) (New : Activity → Type 0)
    (stand : StandFor I before)
    (events : after.events ≡ before.events)
    (paired : ArePlaces after.activities)
    (others : (m : ℕ) → m ≢ n → place_of after.activities m ≡ place_of before.activities m)
    (has : (m : ℕ) → is_some (place_of after.activities m) ≡ is_some (activity_of (record I { activities = xs }) m))
    (alone : (m r : ℕ) → m ≢ n → place_of before.activities m ≡ Some r → r ≢ q)
    (its : (r : ℕ) → place_of before.activities n ≡ Some r → r ≡ q)
    (shared : AreShared (length after.ends) after.lists)
    (ends : (k : ℕ) → (IsEndOfPlace q k → ⊥) → end_at after.ends k ≡ end_at before.ends k)
    (stays : (p k : ℕ) → Contains (ends_of before.lists p) k → (IsEndOfPlace q k → ⊥) → Contains (ends_of after.lists p) k)
    (was : (p k : ℕ) → Contains (ends_of after.lists p) k → (IsEndOfPlace q k → ⊥) → Contains (ends_of before.lists p) k)
    (into : (b : Activity) → Contains xs b → (Contains I.activities b × (b.id ≢ n)) ⊎ New b)
    (back : (a : Activity) → Contains I.activities a → a.id ≢ n → Contains xs a)
    (new : (side : Side) (b : Activity) → New b → (p : ℕ) × IsEndOf I.period after side b p q)
    (one : (p k : ℕ) → Contains (ends_of after.lists p) k → IsEndOfPlace q k → (b : Activity) × Contains xs b × New b) where
  kept : (side : Side) (a : Activity) (p r : ℕ) → a.id ≢ n → IsEndOf I.period before side a p r → IsEndOf I.period after side a p r
  kept side a p r apart end =
      let out : IsEndOfPlace q (end_number side r) → ⊥ = λ is. alone a.id r apart end.numbered (place_of_end side q r is) in
      let was : IsAsWas before after a a = record { numbered = others a.id apart; events = λ at. ap (λ k. place_of k (own at a)) events; span = refl } in
      end_kept I.period before after side a a p r was (stays p (end_number side r) end.listed out) (ends (end_number side r) out) end

  -- a listed end of another activity is one of it still
  other_listed : (p k : ℕ) → Contains (ends_of after.lists p) k → (IsEndOfPlace q k → ⊥) → IsListed (record I { activities = xs }) after p k
  other_listed p k i out =
      let w = stand.only p k (was p k i out) in
      let apart : w.activity.id ≢ n =
      λ same.
      let at : w.place ≡ q = its w.place (sym (ap (place_of before.activities) same) ∙ w.is_end.numbered) in
      out (subst (IsEndOfPlace q) (sym (w.number ∙ ap (end_number w.side) at)) (end_of_place w.side q))
      in
      record {
        side = w.side;
        activity = w.activity;
        place = w.place;
        there = back w.activity w.there apart;
        number = w.number;
        is_end = kept w.side w.activity p w.place apart w.is_end;
      }

  -- a listed end of the place is one of a new activity
  new_listed : (p k : ℕ) → Contains (ends_of after.lists p) k → IsEndOfPlace q k → IsListed (record I { activities = xs }) after p k
  new_listed p k i is =
      let side = side_of q k is in
      let b = one p k i is in
      let end = new side.0 b.0 b.2 in
      let at : end.0 ≡ p = shared.apart end.0 p k (subst (Contains (ends_of after.lists end.0)) (sym side.1) end.1.listed) i in
      record {
        side = side.0;
        activity = b.0;
        place = q;
        there = b.1;
        number = side.1;
        is_end = subst (λ r. IsEndOf I.period after side.0 b.0 r q) at end.1;
      }

  pub stands_around : StandFor (record I { activities = xs }) after
  stands_around =
      record {
        events = subst ArePlaces (sym events) stand.events;
        activities = paired;
        of_events = λ e. ap (λ k. is_some (place_of k e)) events ∙ stand.of_events e;
        of_activities = has;
        shared = shared;
        all = λ side b there_is.
            elim (into b there_is) [
              | inl old ↦ let w = stand.all side b old.0 in (w.0, w.1, kept side b w.0 w.1 old.1 w.2)
              | inr come ↦ let w = new side b come in (w.0, q, w.1)
            ];
        only = λ p k i. elim (is_end q k) [ inl is ↦ new_listed p k i is | inr out ↦ other_listed p k i out ];
      }

-- ---- where the ends of a number are

-- a number that an activity has
named : (n : ℕ) (xs : List Activity) → is_some (with_number id_of n xs) ≡ true → (a : Activity) × Contains xs a × (a.id ≡ n)
named n [] is = absurd (false≢true is)
named n (x ∷ xs) is =
    elim (x.id == n) as (λ b. (x.id == n) ≡ b → is_some (cond b (Some x) (with_number id_of n xs)) ≡ true → (a : Activity) × Contains (x ∷ xs) a × (a.id ≡ n)) [
      | true ↦ λ same _. (x, here x xs, eqb-true x.id n same)
      | false ↦ λ _ later. let w = named n xs later in (w.0, there w.0 x xs w.1, w.2)
    ] refl is

-- where the number has a place, both ends of its activity are listed where their mates look
module _ (I : Network) (links : Links) (n q : ℕ) (at : place_of links.activities n ≡ Some q) (stand : StandFor I links) where
  pub its_activity : (a : Activity) × Contains I.activities a × (a.id ≡ n)
  its_activity = named n I.activities (sym (stand.of_activities n) ∙ ap is_some at)

  its_end : (side : Side) (a : Activity) → Contains I.activities a → a.id ≡ n → (p : ℕ) × IsEndOf I.period links side a p q
  its_end side a there same =
      let w = stand.all side a there in
      (w.0, subst (IsEndOf I.period links side a w.0) (some_same w.1 q (sym w.2.numbered ∙ ap (place_of links.activities) same ∙ at)) w.2)

  pub mate_listed : (side : Side) → Contains (ends_of links.lists (end_at links.ends (end_number (opposite side) q)).looks_at) (end_number side q)
  mate_listed side =
      let a = its_activity in
      let end = its_end side a.0 a.1 a.2 in
      let mate = its_end (opposite side) a.0 a.1 a.2 in
      subst (λ p. Contains (ends_of links.lists p) (end_number side q))
      (some_same _ _ (sym end.1.at ∙ ap (place_of links.events) (sym (other_opposite side a.0)) ∙ mate.1.looks)) end.1.listed

  pub tail_listed : Contains (ends_of links.lists (end_at links.ends (2 * q + 1)).looks_at) (2 * q)
  tail_listed = mate_listed Tail

  pub head_listed : Contains (ends_of links.lists (end_at links.ends (2 * q)).looks_at) (2 * q + 1)
  head_listed = mate_listed Head

-- ---- a change of the activity of a number

module _ (I : Network) (before : Links) (ends : List End) (lists : List (List ℕ)) (n q : ℕ) (change : Activity → Activity) (keeps : (a : Activity) → (change a).id ≡ a.id)
    (at : place_of before.activities n ≡ Some q)
    (shared : AreShared (length ends) lists)
    (others : (k : ℕ) → (IsEndOfPlace q k → ⊥) → end_at ends k ≡ end_at before.ends k)
    (stays : (p k : ℕ) → Contains (ends_of before.lists p) k → (IsEndOfPlace q k → ⊥) → Contains (ends_of lists p) k)
    (was : (p k : ℕ) → Contains (ends_of lists p) k → (IsEndOfPlace q k → ⊥) → Contains (ends_of before.lists p) k)
    (new : (side : Side) (a : Activity) (p : ℕ) → IsEndOf I.period before side a p q → (r : ℕ) × IsEndOf I.period (record before { ends = ends; lists = lists }) side (change a) r q)
    (stand : StandFor I before) where
  pub stands_changed : StandFor (changed I n change) (record before { ends = ends; lists = lists })
  stands_changed =
      let its = its_activity I before n q at stand in
      stands_around I (change_in id_of n change I.activities) before (record before { ends = ends; lists = lists }) n q
      (λ b. (a : Activity) × Contains I.activities a × (a.id ≡ n) × (change a ≡ b))
      stand refl stand.activities (λ m apart. refl)
      (λ m. stand.of_activities m ∙ sym (has_changed I n m change keeps))
      (λ m r apart is. apart_places before.activities m n q r stand.activities apart at is)
      (λ r is. some_same r q (sym is ∙ at))
      shared others stays was
      (λ b there_is.
      let w = of_change id_of n change I.activities b there_is in
      elim w.2 [
        | inl is ↦ inr (w.0, w.1, is.0, is.1)
        | inr is ↦ inl (subst (Contains I.activities) is.1 w.1, λ same. is.0 (ap (λ (a : Activity). a.id) is.1 ∙ same))
      ])
      (λ a there_is apart. in_change_other id_of n change I.activities a there_is apart)
      (λ side b come.
      let w = its_end I before n q at stand side come.0 come.1 come.2 in
      let end = new side come.0 w.0 w.1 in
      (end.0, subst (λ b. IsEndOf I.period (record before { ends = ends; lists = lists }) side b end.0 q) come.3 end.1))
      (λ p k i is. (change its.0, in_change_same id_of n change I.activities its.0 its.1 its.2, (its.0, its.1, its.2, refl)))

-- ---- another span

abbrev respan : Bounds → Activity → Activity
respan span a = record a { span = span }

pub joins_by : (side : Side) (period : ℕ) (a : Activity) (r s : ℕ) → JoinsBy side period a.span r s ≡ Joins side period a r s
joins_by Tail period a r s = refl
joins_by Head period a r s = refl

pub mate_by : (ends : List End) (q a b : ℕ) → LookAt ends q a b → (side : Side) → (end_at ends (end_number side q)).mate ≡ end_number (opposite side) q
mate_by ends q a b look = by_side (λ s. (end_at ends (end_number s q)).mate ≡ end_number (opposite s) q) look.tail_mate look.head_mate

pub looks_by : (ends : List End) (q : ℕ) (at : Side → ℕ) → LookAt ends q (at Tail) (at Head) → (side : Side) → (end_at ends (end_number side q)).looks_at ≡ at (opposite side)
looks_by ends q at look = by_side (λ s. (end_at ends (end_number s q)).looks_at ≡ at (opposite s)) look.tail_looks look.head_looks

-- an end looks at the place of the event at the other end
pub looks_at : (events : Places) (a : Activity) (at : Side → ℕ) (end : End) → ((side : Side) → place_of events (own side a) ≡ Some (at side)) → (side : Side) → end.looks_at ≡ at (opposite side) → place_of events (other side a) ≡ Some end.looks_at
looks_at events a at end is side looks = ap (place_of events) (sym (own_opposite side a)) ∙ is (opposite side) ∙ ap (λ k. Some k) (sym looks)

-- what an end that was made anew passes
pub made_joins : (period : ℕ) (side : Side) (a : Activity) (end : End) → IsEndFor period a.span side end → (r s : ℕ) → IsTrue (passes period end r s) ↔ Joins side period a r s
made_joins period side a end made r s = subst (λ X. IsTrue (passes period end r s) ↔ X) (joins_by side period a r s) (made.joins r s)

module _ (I : Network) (before : Links) (ends : List End) (n q : ℕ) (span : Bounds) (at : place_of before.activities n ≡ Some q) (keep : KeepOthers before.ends ends q) (tail : IsEndFor I.period span Tail (end_at ends (2 * q))) (head : IsEndFor I.period span Head (end_at ends (2 * q + 1))) (look : LookAt ends q (end_at before.ends (2 * q + 1)).looks_at (end_at before.ends (2 * q)).looks_at) (stand : StandFor I before) where
  respanned : (side : Side) (a : Activity) (p : ℕ) → IsEndOf I.period before side a p q → (r : ℕ) × IsEndOf I.period (record before { ends = ends }) side (respan span a) r q
  respanned side a p end =
      let looks = by_side (λ s. (end_at ends (end_number s q)).looks_at ≡ (end_at before.ends (end_number s q)).looks_at) look.tail_looks look.head_looks side in
      let made = by_side (λ s. IsEndFor I.period span s (end_at ends (end_number s q))) tail head side in (
        p,
        record {
          numbered = end.numbered;
          at = ap (place_of before.events) (by_side (λ s. own s (respan span a) ≡ own s a) refl refl side) ∙ end.at;
          listed = end.listed;
          looks = ap (place_of before.events) (by_side (λ s. other s (respan span a) ≡ other s a) refl refl side) ∙ end.looks ∙ ap (λ k. Some k) (sym looks);
          mate = mate_by ends q _ _ look side;
          first = made.first;
          some = made.some;
          width = made.width;
          joins = λ r s rl sl. made_joins I.period side (respan span a) _ made r s;
        },
      )

  pub span_set : StandFor (changed I n (respan span)) (record before { ends = ends })
  span_set =
      stands_changed I before ends before.lists n q (respan span) (λ a. refl) at (subst (λ k. AreShared k before.lists) (sym keep.many) stand.shared) keep.others
      (λ p k i out. i) (λ p k i out. i) respanned stand

-- ---- an activity less

pub housed_less : (events activities activities' : Places) (ends : List End) (at at' : Shared) (n q : ℕ) → AreHoused events activities ends at → ArePlaces activities' → ((m : ℕ) → place_of activities' m ≡ (if m == n then None else place_of activities m)) → place_of activities n ≡ Some q
    → AreUnlisted at.lists at'.lists q → at'.items ≡ at.items → AreStored at'.items at'.lists → AreHoused events activities' ends at'
housed_less events activities activities' ends at at' n q h paired went is unlisted items stored =
    record {
      are_events = h.are_events;
      are_activities = paired;
      listed_in = stored;
      items = (let few = h.items in omega (arith, few, items));
      event_room = λ e p is_at. let low = h.event_room e p is_at in omega (arith, low, unlisted.many);
      activity_room = λ m r is_at. h.activity_room m r (left m r is_at);
      owned = λ p k i.
          let w = h.owned p k (unlisted.was p k i) in
          let apart : w.0 ≢ n = λ same. unlisted.gone p k i (subst (λ r. IsEndOfPlace r k) (some_same w.1 q (sym w.2 ∙ ap (place_of activities) same ∙ is)) w.3) in
          (w.0, w.1, went_other activities activities' n went w.0 apart ∙ w.2, w.3);
    }
  where
    left : (m r : ℕ) → place_of activities' m ≡ Some r → place_of activities m ≡ Some r
    left m r is_at = let gone = went m in grind (arith, gone, is_at)

pub activity_dropped : (I J : Network) (before : Links) (activities' : Places) (lists' : List (List ℕ)) (n q : ℕ) → edited I (edits.DropActivity n) ≡ Ok J → place_of before.activities n ≡ Some q → ((m : ℕ) → place_of activities' m ≡ (if m == n then None else place_of before.activities m)) → ArePlaces activities'
    → AreUnlisted before.lists lists' q → AreShared (length before.ends) lists' → StandFor I before → StandFor J (record before { activities = activities'; lists = lists' })
activity_dropped I J before activities' lists' n q ok at went paired unlisted shared stand =
    stands_for I J (edits.DropActivity n) (record before { activities = activities'; lists = lists' }) ok
    (stands_around I (take_out id_of n I.activities) before (record before { activities = activities'; lists = lists' }) n q
    (λ b. ⊥)
    stand refl paired
    (went_other before.activities activities' n went)
    (λ m. went_some before.activities activities' n went m ∙ ap (λ b. if m == n then false else b) (stand.of_activities m) ∙ sym (has_taken I n m))
    (λ m r apart is. apart_places before.activities m n q r stand.activities apart at is)
    (λ r is. some_same r q (sym is ∙ at))
    shared
    (λ k out. refl)
    unlisted.stays
    (λ p k i out. unlisted.was p k i)
    (λ b there_is. inl (of_take_out id_of n I.activities b there_is))
    (λ a there_is apart. in_take_out id_of n I.activities a there_is apart)
    (λ side b none. absurd none)
    (λ p k i is. absurd (unlisted.gone p k i is)))
