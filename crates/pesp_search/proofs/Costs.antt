-- Costs: what is known of a path is no more than what times that extend it cost, all of it where the path has all events, and each further time adds what it completes.
use Rattle.std.proofs.Common.{◌≡◌, ℕ, zero, suc, ◌+◌, ◌-◌, ◌*◌, ◌<◌, ◌≤◌, ◌==◌, nat_lt, nat_le, Bool, true, false, cond, ◌&&◌, IsTrue, List, [], ◌∷◌, ◌++◌, length, map, filter, get_or, Option, Some, None, is_some, refl, sym, ◌∙◌, ap, inl, inr, arith, All, sum_by, zero-add}
use Rattle.std.specs.BTreeMap.{is_at}
use Rattle.std.specs.List.{Contains, zip}
use Rattle.std.specs.Map.{lookup}
use Rattle.std.specs.Ordering.{nat_cmp}
use Rattle.std.proofs.lemmas.Bool.{and_parts, cases_Bool, cases_order, eq-eqb, eqb-false, eqb-true, false≢true, le-leb, le-ltb, lt-leb, lt-ltb, ne_eqb}
use Rattle.std.proofs.lemmas.List.Elements.{All-filter, All-head, All-tail, All-contains_itself}
use Rattle.std.proofs.lemmas.List.Sums.{sum_by-cons, sum_by-le, sum_by-le-sum_by}
use Rattle.std.proofs.lemmas.Nat.{mul-le}
use Rattle.pesp_base.specs.declared.activity.Activity.{Activity}
use Rattle.pesp_base.specs.Limits.{greatest_period, greatest_weight, max_activities}
use Rattle.pesp_base.specs.Numbered.{with_number}
use Rattle.pesp_base.specs.Tensions.{slack_of}
use Rattle.pesp_base.proofs.Laws.{residue_below}
use Rattle.pesp_instance.specs.declared.event.Event.{Event}
use Rattle.pesp_instance.specs.Network.{HasEnds, IsActivity, IsNetwork, Network, around, event_ids, is_end_of}
use Rattle.pesp_instance.proofs.Rising.{IsAbove, Rises, Rises-from_increasing, length-filter_le}
use Rattle.pesp_tension.specs.Timetables.{Times, time_of}
use Rattle.pesp_tension.specs.Answers.{cost_in, cost_of, time_at}
use Rattle.pesp_search.specs.Paths.{timetable_of}
use Rattle.pesp_search.specs.Nodes.{Extends, full_cost, known_cost, known_share}
use Rattle.pesp_instance.proofs.Housed.{same_test}
use Rattle.pesp_search.specs.Branch.{is_complete_at}

-- the time of an event, where events and times stand side by side
abbrev time_in : List ℕ → List ℕ → ℕ → Option ℕ
time_in ids times e = lookup (is_at (nat_cmp e)) (zip ids times)

-- ---- sums

-- what holds of each member of a list holds of the list
pub All-of_members : {X : Type 0} (P : X → Type 0) (xs : List X) → ((x : X) → Contains xs x → P x) → All P xs
All-of_members P xs each k d l = each (get_or xs k d) (All-contains_itself xs k d l)

-- two sums are equal where their terms are
pub sum_same : {X : Type 0} (f g : X → ℕ) (xs : List X) → All (λ x. f x ≡ g x) xs → sum_by f xs ≡ sum_by g xs
sum_same f g [] same = refl
sum_same f g (x ∷ xs) same =
    let here = All-head (λ y. f y ≡ g y) x xs same in
    let rest = sum_same f g xs (All-tail (λ y. f y ≡ g y) x xs same) in
    omega (arith, sum_by-cons f x xs, sum_by-cons g x xs, here, rest)

-- where some terms grow by a part, the sum grows by the parts of those
sum_grows : {X : Type 0} (old new part : X → ℕ) (p q : X → Bool) (xs : List X) → All (λ x. new x ≡ old x + cond (q x && p x) (part x) 0) xs
    → sum_by new xs ≡ sum_by old xs + sum_by part (filter p (filter q xs))
sum_grows old new part p q [] grows = refl
sum_grows {X} old new part p q (x ∷ xs) grows =
    let here = All-head (λ y. new y ≡ old y + cond (q y && p y) (part y) 0) x xs grows in
    let rest = sum_grows old new part p q xs (All-tail (λ y. new y ≡ old y + cond (q y && p y) (part y) 0) x xs grows) in
    omega (arith, sum_by-cons new x xs, sum_by-cons old x xs, here, rest, head x xs)
  where
    inner : (x : X) (xs : List X) → sum_by part (cond (p x) (x ∷ xs) xs) ≡ cond (p x) (part x) 0 + sum_by part xs
    inner x xs =
        elim (p x) as (λ b. sum_by part (cond b (x ∷ xs) xs) ≡ cond b (part x) 0 + sum_by part xs) [
          | true ↦ sum_by-cons part x xs
          | false ↦ sym (zero-add (sum_by part xs))
        ]

    head : (x : X) (xs : List X) → sum_by part (filter p (filter q (x ∷ xs))) ≡ cond (q x && p x) (part x) 0 + sum_by part (filter p (filter q xs))
    head x xs =
        elim (q x) as (λ b. sum_by part (filter p (cond b (x ∷ filter q xs) (filter q xs))) ≡ cond (b && p x) (part x) 0 + sum_by part (filter p (filter q xs))) [
          | true ↦ inner x (filter p (filter q xs))
          | false ↦ sym (zero-add (sum_by part (filter p (filter q xs))))
        ]

-- ---- times on a path

-- a path is extended by one more time
extends_push : (path : List ℕ) (t : ℕ) → Extends (path ++ t ∷ []) path
extends_push [] t = tt
extends_push (x ∷ path) t = (refl, extends_push path t)

-- an event with a time on the path has it on times that extend the path, too
time_kept : (ids times path : List ℕ) (e : ℕ) → Extends times path → IsTrue (is_some (time_in ids path e)) → time_in ids times e ≡ time_in ids path e
time_kept [] times path e extends known = refl
time_kept (i ∷ ids) times [] e extends known = absurd (false≢true known)
time_kept (i ∷ ids) [] (x ∷ path) e extends known = absurd extends
time_kept (i ∷ ids) (t ∷ times) (x ∷ path) e extends known =
    elim (is_at (nat_cmp e) i) as (λ b. IsTrue (is_some (cond b (Some x) (time_in ids path e))) → cond b (Some t) (time_in ids times e) ≡ cond b (Some x) (time_in ids path e)) [
      | true ↦ λ _. ap Some extends.0
      | false ↦ λ later. time_kept ids times path e extends.1 later
    ] known

-- where the path has all events, each event has a time
pub all_timed : (es : List Event) (path : List ℕ) (f : ℕ) → length path ≡ length (map (λ x. x.id) es) → IsTrue (is_some (with_number (λ x. x.id) f es)) → IsTrue (is_some (time_in (map (λ x. x.id) es) path f))
all_timed [] path f full has = absurd (false≢true has)
all_timed (x ∷ es) [] f full has = absurd (omega (arith, full))
all_timed (x ∷ es) (t ∷ path) f full has =
    rw (same_test f x.id)
    (elim (x.id == f) as (λ b. IsTrue (is_some (cond b (Some x) (with_number (λ y. y.id) f es))) → IsTrue (is_some (cond b (Some t) (time_in (map (λ y. y.id) es) path f)))) [
      | true ↦ λ _. refl
      | false ↦ λ later. all_timed es path f (omega (arith, full)) later
    ] has)

-- events that are all above a number: those that are found, and those at an index
found_above : (n f : ℕ) (es : List Event) → IsAbove (λ x. x.id) n es → IsTrue (is_some (with_number (λ x. x.id) f es)) → n < f
found_above n f [] above has = absurd (false≢true has)
found_above n f (x ∷ es) above has =
    elim (x.id == f) as (λ b. (x.id == f) ≡ b → IsTrue (is_some (cond b (Some x) (with_number (λ y. y.id) f es))) → n < f) [
      | true ↦ λ same _. omega (arith, above.0, eqb-true x.id f same)
      | false ↦ λ _ later. found_above n f es above.1 later
    ] refl has

above_at : (n k : ℕ) (es : List Event) → IsAbove (λ x. x.id) n es → k < length (map (λ x. x.id) es) → n < get_or (map (λ x. x.id) es) k 0
above_at n k [] above room = absurd (omega (arith, room))
above_at n zero (x ∷ es) above room = above.0
above_at n (suc k) (x ∷ es) above room = above_at n k es above.1 (omega (arith, room))

-- no event that is found is below the first
not_below : (f : ℕ) (x : Event) (es : List Event) → IsAbove (λ y. y.id) x.id es → IsTrue (is_some (with_number (λ y. y.id) f (x ∷ es))) → x.id ≤ f
not_below f x es above has =
    elim (x.id == f) as (λ b. (x.id == f) ≡ b → IsTrue (is_some (cond b (Some x) (with_number (λ y. y.id) f es))) → x.id ≤ f) [
      | true ↦ λ same _. omega (arith, eqb-true x.id f same)
      | false ↦ λ _ later. omega (arith, found_above x.id f es above later)
    ] refl has

-- without times no event has one
none_timed : (ids : List ℕ) (e : ℕ) → time_in ids [] e ≡ None
none_timed [] e = refl
none_timed (i ∷ ids) e = refl

-- the events with a time on the path are those below the next one
timed_below : (es : List Event) (path : List ℕ) (f : ℕ) → Rises (λ x. x.id) es → length path < length (map (λ x. x.id) es) → IsTrue (is_some (with_number (λ x. x.id) f es))
    → is_some (time_in (map (λ x. x.id) es) path f) ≡ nat_lt f (get_or (map (λ x. x.id) es) (length path) 0)
timed_below [] path f rises room has = absurd (false≢true has)
timed_below (x ∷ es) [] f rises room has = sym (le-ltb f x.id (not_below f x es rises.0 has))
timed_below (x ∷ es) (t ∷ path) f rises room has =
    rw (same_test f x.id)
    (elim (x.id == f) as (λ b. (x.id == f) ≡ b → IsTrue (is_some (cond b (Some x) (with_number (λ y. y.id) f es))) → is_some (cond b (Some t) (time_in (map (λ y. y.id) es) path f)) ≡ nat_lt f (get_or (map (λ y. y.id) es) (length path) 0)) [
      | true ↦ λ same _. sym (lt-ltb f _ (omega (arith, eqb-true x.id f same, above_at x.id (length path) es rises.0 (omega (arith, room)))))
      | false ↦ λ _ later. timed_below es path f rises.1 (omega (arith, room)) later
    ] refl has)

-- those with a time on the path and one time more are those up to the next one
timed_upto : (es : List Event) (path : List ℕ) (t f : ℕ) → Rises (λ x. x.id) es → length path < length (map (λ x. x.id) es) → IsTrue (is_some (with_number (λ x. x.id) f es))
    → is_some (time_in (map (λ x. x.id) es) (path ++ t ∷ []) f) ≡ nat_le f (get_or (map (λ x. x.id) es) (length path) 0)
timed_upto [] path t f rises room has = absurd (false≢true has)
timed_upto (x ∷ es) [] t f rises room has =
    let low = not_below f x es rises.0 has in
    rw (same_test f x.id, none_timed (map (λ y. y.id) es) f)
    (elim (x.id == f) as (λ b. (x.id == f) ≡ b → is_some (cond b (Some t) None) ≡ nat_le f x.id) [
      | true ↦ λ same. sym (le-leb f x.id (omega (arith, eqb-true x.id f same)))
      | false ↦ λ apart. sym (lt-leb f x.id (above x.id f low (eqb-false x.id f apart)))
    ] refl)
  where
    above : (m n : ℕ) → m ≤ n → (m ≡ n → ⊥) → m < n
    above m n low apart =
        elim (cases_order m n) [
          | inl same ↦ absurd (apart same)
          | inr other ↦ elim other [ inl below ↦ below | inr over ↦ absurd (omega (arith, low, over)) ]
        ]
timed_upto (x ∷ es) (s ∷ path) t f rises room has =
    rw (same_test f x.id)
    (elim (x.id == f) as (λ b. (x.id == f) ≡ b → IsTrue (is_some (cond b (Some x) (with_number (λ y. y.id) f es))) → is_some (cond b (Some s) (time_in (map (λ y. y.id) es) (path ++ t ∷ []) f)) ≡ nat_le f (get_or (map (λ y. y.id) es) (length path) 0)) [
      | true ↦ λ same _. sym (le-leb f _ (omega (arith, eqb-true x.id f same, above_at x.id (length path) es rises.0 (omega (arith, room)))))
      | false ↦ λ _ later. timed_upto es path t f rises.1 (omega (arith, room)) later
    ] refl has)

-- ---- what is known

-- an activity's share is no more than what it costs on times that extend the path
share_le : (I : Network) (times path : List ℕ) → Extends times path → (a : Activity) → known_share I path a ≤ cost_in (timetable_of I times) a
share_le I times path extends a =
    let from = is_some (time_of (timetable_of I path) a.from) in
    let to = is_some (time_of (timetable_of I path) a.to) in
    elim (cases_Bool (from && to)) [
      | inl known ↦
          let parts = and_parts from to known in
          rw (known, time_kept (event_ids I) times path a.from extends parts.0, time_kept (event_ids I) times path a.to extends parts.1) (omega arith)
      | inr open_ ↦ rw open_ (omega arith)
    ]

-- what is known of a path is no more than what times that extend it cost
pub known_le_cost : (I : Network) (times path : List ℕ) → Extends times path → known_cost I path ≤ full_cost I times
known_le_cost I times path extends =
    sum_by-le-sum_by (known_share I path) (cost_in (timetable_of I times)) I.activities (share_le I times path extends)

-- an activity whose ends have times has its cost as its share
share_same : (I : Network) (path : List ℕ) → length path ≡ length (event_ids I) → (a : Activity) → HasEnds I.events a → known_share I path a ≡ cost_in (timetable_of I path) a
share_same I path full a ends = rw (all_timed I.events path a.from full ends.from, all_timed I.events path a.to full ends.to) refl

-- where the path has all events, what is known is the cost
pub known_is_cost : (I : Network) (path : List ℕ) → IsNetwork I → length path ≡ length (event_ids I) → known_cost I path ≡ full_cost I path
known_is_cost I path network full =
    sum_same (known_share I path) (cost_in (timetable_of I path)) I.activities (λ k d l. share_same I path full _ (network.ends k d l))

-- what times cost is the cost of their timetable
pub full_is_cost : (I : Network) (times : List ℕ) → full_cost I times ≡ cost_of I (timetable_of I times)
full_is_cost I times = refl

-- one time more adds the cost of an activity where its event is an end, and the other end is not above it
share_step : (I : Network) (path : List ℕ) (t : ℕ) → IsNetwork I → length path < length (event_ids I) → (a : Activity) → HasEnds I.events a
    → known_share I (path ++ t ∷ []) a ≡ known_share I path a + cond (is_end_of (get_or (event_ids I) (length path) 0) a && is_complete_at (get_or (event_ids I) (length path) 0) a) (cost_in (timetable_of I (path ++ t ∷ [])) a) 0
share_step I path t network room a ends =
    rw (from_new, to_new, from_old, to_old)
    (elim (cases_order a.from e) [
      | inl same ↦ rw (le-ltb a.from e (omega (arith, same)), le-leb a.from e (omega (arith, same)), eq-eqb a.from e same) (sym (zero-add _))
      | inr apart ↦ elim apart [
        | inl below ↦
            rw (lt-ltb a.from e below, le-leb a.from e (omega (arith, below)), ne_eqb a.from e (λ same. absurd (omega (arith, same, below))))
            (elim (cases_order a.to e) [
              | inl same ↦ rw (le-ltb a.to e (omega (arith, same)), le-leb a.to e (omega (arith, same)), eq-eqb a.to e same) (sym (zero-add _))
              | inr other ↦ elim other [
                | inl under ↦
                    rw (lt-ltb a.to e under, le-leb a.to e (omega (arith, under)), ne_eqb a.to e (λ same. absurd (omega (arith, same, under))), kept a.from from_old below, kept a.to to_old under)
                    (omega arith)
                | inr over ↦ rw (le-ltb a.to e (omega (arith, over)), lt-leb a.to e over) (elim (a.to == e) as (λ b. 0 ≡ 0 + cond (b && false) cost 0) [ true ↦ omega arith | false ↦ omega arith ])
              ]
            ])
        | inr above ↦
            rw (le-ltb a.from e (omega (arith, above)), lt-leb a.from e above, ne_eqb a.from e (λ same. absurd (omega (arith, same, above))))
            (elim (a.to == e) as (λ b. 0 ≡ 0 + cond (b && false) cost 0) [ true ↦ omega arith | false ↦ omega arith ])
      ]
    ])
  where
    e : ℕ
    e = get_or (event_ids I) (length path) 0

    cost : ℕ
    cost = cost_in (timetable_of I (path ++ t ∷ [])) a

    rises : Rises (λ x. x.id) I.events
    rises = Rises-from_increasing (λ x. x.id) I.events network.events_rise

    from_old : is_some (time_of (timetable_of I path) a.from) ≡ nat_lt a.from e
    from_old = timed_below I.events path a.from rises room ends.from

    to_old : is_some (time_of (timetable_of I path) a.to) ≡ nat_lt a.to e
    to_old = timed_below I.events path a.to rises room ends.to

    from_new : is_some (time_of (timetable_of I (path ++ t ∷ [])) a.from) ≡ nat_le a.from e
    from_new = timed_upto I.events path t a.from rises room ends.from

    to_new : is_some (time_of (timetable_of I (path ++ t ∷ [])) a.to) ≡ nat_le a.to e
    to_new = timed_upto I.events path t a.to rises room ends.to

    kept : (f : ℕ) → is_some (time_of (timetable_of I path) f) ≡ nat_lt f e → f < e → time_of (timetable_of I (path ++ t ∷ [])) f ≡ time_of (timetable_of I path) f
    kept f old below = time_kept (event_ids I) (path ++ t ∷ []) path f (extends_push path t) (old ∙ lt-ltb f e below)

-- one time more adds the costs of the activities around its event that lead to no later one
pub known_step : (I : Network) (path : List ℕ) (t : ℕ) → IsNetwork I → length path < length (event_ids I)
    → known_cost I (path ++ t ∷ []) ≡ known_cost I path + sum_by (cost_in (timetable_of I (path ++ t ∷ []))) (filter (is_complete_at (get_or (event_ids I) (length path) 0)) (around I (get_or (event_ids I) (length path) 0)))
known_step I path t network room =
    let e = get_or (event_ids I) (length path) 0 in
    sum_grows (known_share I path) (known_share I (path ++ t ∷ [])) (cost_in (timetable_of I (path ++ t ∷ []))) (is_complete_at e) (is_end_of e) I.activities
    (λ k d l. share_step I path t network room _ (network.ends k d l))

-- ---- how much it may be

-- an activity costs at most the greatest weight at the greatest slack
cost_small : (I : Network) (m : Times) (a : Activity) → IsNetwork I → m.period ≡ I.period → IsActivity a → cost_in m a ≤ greatest_weight * (greatest_period - 1)
cost_small I m a network same is =
    let some : 0 < m.period = omega (arith, network.period_low, same) in
    let slack : slack_of m.period a.span (time_at m a.from) (time_at m a.to) < m.period = residue_below m.period _ some in
    mul-le a.weight _ greatest_weight (greatest_period - 1) is.weight (omega (arith, slack, network.period_high, same))

share_small : (I : Network) (path : List ℕ) (a : Activity) → IsNetwork I → IsActivity a → known_share I path a ≤ greatest_weight * (greatest_period - 1)
share_small I path a network is =
    elim (is_some (time_of (timetable_of I path) a.from) && is_some (time_of (timetable_of I path) a.to)) as (λ b. cond b (cost_in (timetable_of I path) a) 0 ≤ greatest_weight * (greatest_period - 1)) [
      | true ↦ cost_small I (timetable_of I path) a network refl is
      | false ↦ omega arith
    ]

-- a sum over no more activities than an instance has, each of which costs no more than one may
sum_small : (f : Activity → ℕ) (xs : List Activity) (most n : ℕ) → All (λ a. f a ≤ most) xs → length xs ≤ n → sum_by f xs ≤ most * n
sum_small f xs most n each few =
    let all = sum_by-le f most xs each in
    let more = mul-le most (length xs) most n (omega arith) few in
    omega (arith, all, more)

-- what is known of a path is small
pub known_small : (I : Network) (path : List ℕ) → IsNetwork I → known_cost I path ≤ greatest_weight * (greatest_period - 1) * max_activities I.period
known_small I path network =
    sum_small (known_share I path) I.activities (greatest_weight * (greatest_period - 1)) (max_activities I.period)
    (λ k d l. share_small I path _ network (network.activities_within k d l)) network.few_activities
