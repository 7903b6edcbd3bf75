-- What a change of a vertex leaves: the events, and what is listed at them.
use Rattle.std.proofs.Common.{◌≡◌, ℕ, Bool, true, false, cond, ◌==◌, ◌&&◌, ◌||◌, not, nat_lt, List, [], ◌∷◌, filter, Option, Some, None, is_some, option_and_then, option_map, slice_index_or, slice_set, refl, sym, ap, ◌∙◌, inl, inr}
use Rattle.std.proofs.lemmas.Bool.{cases_eq, eq-eqb, ne_eqb}
use Rattle.std.proofs.lemmas.List.{map-append}
use Rattle.std.specs.BTreeMap.{is_at}
use Rattle.std.specs.Map.{lookup}
use Rattle.std.specs.Ordering.{nat_cmp}
use Rattle.pesp_base.specs.declared.activity.Activity.{Activity}
use Rattle.pesp_base.specs.Windows.{Interval}
use Rattle.pesp_base.specs.Numbered.{with_number, put_in, take_out, change_in}
use Rattle.slab.specs.Slab.{Slab}
use Rattle.pesp_instance.specs.declared.vertex.Vertex.{Vertex}
use Rattle.pesp_instance.specs.Ends.{vertex_number, events_of, with_window, has_key, lists_at, lists, ListTheSame, ListsMore, ListsLess, is_pair_of}
use Rattle.pesp_instance.specs.Network.{Event}
use Rattle.pesp_instance.specs.Table.{IsTable, values_in}
use Rattle.pesp_base.proofs.Orders.{eqb_turned}
use Rattle.pesp_base.proofs.Tests.{or_elsewhere}
use Rattle.pesp_instance.proofs.Housed.{same_test}
use Rattle.pesp_instance.proofs.Numbers.{event_number}
use Rattle.pesp_instance.proofs.Rising.{number-with_number, change_in-with_number, with_number-replaced, with_number-others}
use Rattle.pesp_instance.proofs.Tables.{rising, found, written_in}

-- ---- the events of vertices

pub event-with_number : (e : ℕ) (xs : List Vertex) → with_number event_number e (events_of xs) ≡ option_map (λ x. x.event) (with_number vertex_number e xs)
event-with_number e [] = refl
event-with_number e (x ∷ xs) =
    elim (vertex_number x == e) as (λ b. cond b (Some x.event) (with_number event_number e (events_of xs)) ≡ option_map (λ y. y.event) (cond b (Some x) (with_number vertex_number e xs))) [
      | true ↦ refl
      | false ↦ event-with_number e xs
    ]

is_some-map : (o : Option Vertex) → is_some (option_map (λ x. x.event) o) ≡ is_some o
is_some-map None = refl
is_some-map (Some x) = refl

-- an event is there where its vertex is
pub is_event : (e : ℕ) (xs : List Vertex) → is_some (with_number event_number e (events_of xs)) ≡ is_some (with_number vertex_number e xs)
is_event e xs = ap is_some (event-with_number e xs) ∙ is_some-map (with_number vertex_number e xs)

-- what an event has is what its vertex has
pub told-with_number : {X : Type 0} (tell : Event → Option X) (e : ℕ) (xs : List Vertex) (o : Option Vertex) → o ≡ with_number vertex_number e xs → option_and_then tell (with_number event_number e (events_of xs)) ≡ option_and_then (λ x. tell x.event) o
told-with_number {X} tell e xs o is =
    ap (option_and_then tell) (event-with_number e xs ∙ ap (option_map (λ x. x.event)) (sym is)) ∙ joined o
  where
    joined : (p : Option Vertex) → option_and_then tell (option_map (λ x. x.event) p) ≡ option_and_then (λ x. tell x.event) p
    joined None = refl
    joined (Some x) = refl

-- the window of an event is that of its vertex
pub window-with_number : (e : ℕ) (xs : List Vertex) (o : Option Vertex) → o ≡ with_number vertex_number e xs → option_and_then (λ x. x.window) (with_number event_number e (events_of xs)) ≡ option_and_then (λ x. x.event.window) o
window-with_number e xs o is = told-with_number (λ x. x.window) e xs o is

events-filter : (keep : ℕ → Bool) (xs : List Vertex) → events_of (filter (λ x. keep (vertex_number x)) xs) ≡ filter (λ x. keep (event_number x)) (events_of xs)
events-filter keep [] = refl
events-filter keep (x ∷ xs) =
    elim (keep (vertex_number x)) as (λ b. events_of (cond b (x ∷ filter (λ y. keep (vertex_number y)) xs) (filter (λ y. keep (vertex_number y)) xs)) ≡ cond b (x.event ∷ filter (λ y. keep (event_number y)) (events_of xs)) (filter (λ y. keep (event_number y)) (events_of xs))) [
      | true ↦ ap (λ es. x.event ∷ es) (events-filter keep xs)
      | false ↦ events-filter keep xs
    ]

pub events-put_in : (x : Vertex) (xs : List Vertex) → events_of (put_in vertex_number x xs) ≡ put_in event_number x.event (events_of xs)
events-put_in x xs =
    map-append (λ y. y.event) (filter (λ y. nat_lt (vertex_number y) (vertex_number x)) xs) (x ∷ filter (λ y. nat_lt (vertex_number x) (vertex_number y)) xs)
    ∙ rw (events-filter (λ n. nat_lt n (vertex_number x)) xs, events-filter (λ n. nat_lt (vertex_number x) n) xs) refl

pub events-take_out : (e : ℕ) (xs : List Vertex) → events_of (take_out vertex_number e xs) ≡ take_out event_number e (events_of xs)
events-take_out e xs = events-filter (λ n. not (n == e)) xs

events-change_in : (e : ℕ) (change : Vertex → Vertex) → ((x : Vertex) → (change x).event ≡ x.event) → (xs : List Vertex) → events_of (change_in vertex_number e change xs) ≡ events_of xs
events-change_in e change keeps [] = refl
events-change_in e change keeps (x ∷ xs) =
    let same : (cond (vertex_number x == e) (change x) x).event ≡ x.event = elim (vertex_number x == e) as (λ b. (cond b (change x) x).event ≡ x.event) [ true ↦ keeps x | false ↦ refl ] in
    rw (same, events-change_in e change keeps xs) refl

abbrev pub rewindow : Option Interval → Vertex → Vertex
rewindow window x = record x { event = record x.event { window = window } }

events-rewindow : (e : ℕ) (window : Option Interval) (xs : List Vertex) → events_of (change_in vertex_number e (rewindow window) xs) ≡ with_window e window (events_of xs)
events-rewindow e window [] = refl
events-rewindow e window (x ∷ xs) =
    let same : (cond (vertex_number x == e) (rewindow window x) x).event ≡ cond (event_number x.event == e) (record x.event { window = window }) x.event = elim (vertex_number x == e) as (λ b. (cond b (rewindow window x) x).event ≡ cond b (record x.event { window = window }) x.event) [ true ↦ refl | false ↦ refl ] in
    rw (same, events-rewindow e window xs) refl

-- ---- what one set has after a change

either : (b c : Bool) → cond b true c ≡ (b || c)
either true c = refl
either false c = refl

neither : (b c : Bool) → cond b false c ≡ (not b && c)
neither true c = refl
neither false c = refl

module _ (old new : List ℕ) (number : ℕ) where
  pub one_more : ((q : ℕ) → has_key new q ≡ cond (is_at (nat_cmp number) q) true (has_key old q)) → (n : ℕ) → has_key new n ≡ (number == n || has_key old n)
  one_more updates n = updates n ∙ either (is_at (nat_cmp number) n) (has_key old n) ∙ rw (same_test number n, eqb_turned n number) refl

  pub one_less : ((q : ℕ) → has_key new q ≡ cond (is_at (nat_cmp number) q) false (has_key old q)) → (n : ℕ) → has_key new n ≡ (not (number == n) && has_key old n)
  one_less updates n = updates n ∙ neither (is_at (nat_cmp number) n) (has_key old n) ∙ rw (same_test number n, eqb_turned n number) refl

-- ---- a vertex in the place of another one of its number

module _ (s : Slab Vertex) (es : List (ℕ × ℕ)) (table : IsTable vertex_number s.slots es) (e slot : ℕ) (is : lookup (is_at (nat_cmp e)) es ≡ Some slot) (x : Vertex) (at : slice_index_or s.slots slot None ≡ Some x) where
  abbrev before : List Vertex
  before = values_in s.slots es

  -- the vertex stands under the number
  here : with_number vertex_number e before ≡ Some x
  here = sym (found vertex_number s.slots es table e slot is) ∙ at

  its : vertex_number x ≡ e
  its = number-with_number vertex_number e before x here

  pub lists_here : (n : ℕ) → lists before e n ≡ has_key x.activities.keys n
  lists_here n = ap (λ o. lists_at o n) here

  module _ (y : Vertex) (same : vertex_number y ≡ vertex_number x) where
    abbrev after : List Vertex
    after = values_in (slice_set s.slots slot (Some y)) es

    both : (after ≡ change_in vertex_number (vertex_number y) (λ _. y) before) × IsTable vertex_number (slice_set s.slots slot (Some y)) es
    both = written_in vertex_number s es e slot y (sym (same ∙ its)) table is

    pub IsTable-written : IsTable vertex_number (slice_set s.slots slot (Some y)) es
    IsTable-written = both.1

    at_it : with_number vertex_number e after ≡ Some y
    at_it = rw (both.0, ← (same ∙ its)) (with_number-replaced vertex_number y x before (ap (λ n. with_number vertex_number n before) (same ∙ its) ∙ here))

    elsewhere : (m : ℕ) → (e == m) ≡ false → with_number vertex_number m after ≡ with_number vertex_number m before
    elsewhere m apart = rw both.0 (with_number-others vertex_number m y before (ap (λ n. n == m) (same ∙ its) ∙ apart))

    -- a change that is made of x is made of what has its number
    changed_there : (change : Vertex → Vertex) → y ≡ change x → after ≡ change_in vertex_number e change before
    changed_there change made =
        both.0 ∙ ap (λ n. change_in vertex_number n (λ _. y) before) (same ∙ its) ∙ ap (λ z. change_in vertex_number e (λ _. z) before) made
        ∙ change_in-with_number vertex_number e change before x (rising vertex_number s.slots es table) here

    pub lists_more : (number : ℕ) → ((n : ℕ) → has_key y.activities.keys n ≡ (number == n || has_key x.activities.keys n)) → ListsMore (λ m n. e == m && number == n) before after
    lists_more number more m n =
        elim (cases_eq e m) [
          | inl at_e ↦ rw (eq-eqb e m at_e, ← at_e) (ap (λ o. lists_at o n) at_it ∙ more n ∙ ap (λ b. (number == n) || b) (sym (lists_here n)))
          | inr apart ↦ rw (ne_eqb e m apart) (ap (λ o. lists_at o n) (elsewhere m (ne_eqb e m apart)))
        ]

    pub lists_less : (number : ℕ) → ((n : ℕ) → has_key y.activities.keys n ≡ (not (number == n) && has_key x.activities.keys n)) → ListsLess (λ m n. e == m && number == n) before after
    lists_less number less m n =
        elim (cases_eq e m) [
          | inl at_e ↦ rw (eq-eqb e m at_e, ← at_e) (ap (λ o. lists_at o n) at_it ∙ less n ∙ ap (λ b. not (number == n) && b) (sym (lists_here n)))
          | inr apart ↦ rw (ne_eqb e m apart) (ap (λ o. lists_at o n) (elsewhere m (ne_eqb e m apart)))
        ]

    pub lists_same : y.activities.keys ≡ x.activities.keys → ListTheSame before after
    lists_same keys m n =
        elim (cases_eq e m) [
          | inl at_e ↦ rw (← at_e) (ap (λ o. lists_at o n) at_it ∙ ap (λ ks. has_key ks n) keys ∙ sym (lists_here n))
          | inr apart ↦ ap (λ o. lists_at o n) (elsewhere m (ne_eqb e m apart))
        ]

  -- another set leaves the events
  pub events_kept : (y : Vertex) → y ≡ record x { activities = y.activities } → events_of (values_in (slice_set s.slots slot (Some y)) es) ≡ events_of before
  events_kept y made =
      ap events_of (changed_there y (ap vertex_number made) (λ z. record z { activities = y.activities }) made)
      ∙ events-change_in e (λ z. record z { activities = y.activities }) (λ z. refl) before

  -- another window is that of the event
  pub events_rewindowed : (window : Option Interval) → events_of (values_in (slice_set s.slots slot (Some (rewindow window x))) es) ≡ with_window e window (events_of before)
  events_rewindowed window = ap events_of (changed_there (rewindow window x) refl (rewindow window) refl) ∙ events-rewindow e window before

-- ---- what is listed after a change of one pair

pub not_from : (b c : Bool) → c ≡ not b → b ≡ not c
not_from true c is = ap not (sym is)
not_from false c is = ap not (sym is)

more_of_both : (f t m l : Bool) → ((t && m) || ((f && m) || l)) ≡ (((f || t) && m) || l)
more_of_both true true true l = refl
more_of_both true true false l = refl
more_of_both true false true l = refl
more_of_both true false false l = refl
more_of_both false true true l = refl
more_of_both false true false l = refl
more_of_both false false m l = refl

-- an activity is listed at one end, and then at the other
pub linked_both : (old mid new : List Vertex) (a : Activity) → ListsMore (λ e n. a.from == e && a.id == n) old mid → ListsMore (λ e n. a.to == e && a.id == n) mid new → ListsMore (is_pair_of a) old new
linked_both old mid new a first second e n =
    second e n ∙ ap (λ b. (a.to == e && a.id == n) || b) (first e n) ∙ more_of_both (a.from == e) (a.to == e) (a.id == n) (lists old e n)

module _ (old mid : List Vertex) (event number : ℕ) (more : ListsMore (λ e n. event == e && number == n) old mid) where
  -- a pair that was listed before is no change
  pub listed_before : lists old event number ≡ true → ListTheSame old mid
  listed_before there e n =
      more e n ∙ elim (cases_eq event e) [
        | inl same ↦ elim (cases_eq number n) [
          | inl same' ↦ rw (← same, ← same', eq-eqb event event refl, eq-eqb number number refl) (sym there)
          | inr apart ↦ rw (ne_eqb number n apart) (or_elsewhere (event == e) (lists old e n))
        ]
        | inr apart ↦ rw (ne_eqb event e apart) refl
      ]

  -- a new pair that is taken away again is no change
  pub unlisted_again : (new : List Vertex) → lists old event number ≡ false → ListsLess (λ e n. event == e && number == n) mid new → ListTheSame old new
  unlisted_again new absent less e n =
      less e n ∙ rw (more e n) (elim (cases_eq event e) [
        | inl same ↦ elim (cases_eq number n) [
          | inl same' ↦ rw (← same, ← same', eq-eqb event event refl, eq-eqb number number refl) (sym absent)
          | inr apart ↦ rw (ne_eqb number n apart) (elsewhere_in (event == e) (lists old e n))
        ]
        | inr apart ↦ rw (ne_eqb event e apart) refl
      ])
    where
      elsewhere_in : (b l : Bool) → (not (b && false) && ((b && false) || l)) ≡ l
      elsewhere_in true l = refl
      elsewhere_in false l = refl
