-- The numbers that a vertex lists, and the activities around an event.
use Rattle.std.proofs.Common.{◌≡◌, ℕ, true, false, cond, ◌==◌, List, [], ◌∷◌, map, filter, Option, Some, None, refl, sym, ap, ◌∙◌, inl, inr, arith, All}
use Rattle.std.proofs.lemmas.Bool.{cases_order, cases_eq, eq-eqb, ne_eqb, eqb-true, false≢true, true≢false}
use Rattle.std.proofs.lemmas.Bool.Decides.{nat_tests}
use Rattle.std.proofs.lemmas.List.Elements.{All-head, All-tail, All-filter}
use Rattle.std.proofs.lemmas.Map.Keys.{sorted_head, sorted_tail}
use Rattle.std.specs.declared.cmp.Ordering.TheVariants.{Less}
use Rattle.std.specs.List.{AllByRecursion, list_any, filter_map}
use Rattle.std.specs.List.Sorted.{IsStrictlySortedBy}
use Rattle.std.specs.Ordering.{nat_cmp}
use Rattle.pesp_base.specs.declared.activity.Activity.{Activity}
use Rattle.pesp_base.specs.Numbered.{with_number}
use Rattle.pesp_instance.specs.declared.vertex.Vertex.{Vertex}
use Rattle.pesp_instance.specs.Ends.{vertex_number, has_key, lists_at, is_end_in, AreListed, numbers_at, named_by, AreNames}
use Rattle.pesp_instance.specs.Network.{is_end_of}
use Rattle.pesp_instance.proofs.Numbers.{activity_number as id_of}
use Rattle.pesp_instance.proofs.Rising.{IsAbove, IsAbove-less, IsAbove-filter, Rises, Rises-filter, All-found}
use Rattle.pesp_instance.proofs.Housed.{same_test}

-- ---- the numbers that are listed at an event

abbrev RisesPlain : List ℕ → Type 0
RisesPlain = Rises (λ n. n)

IsAbove-keys : (n : ℕ) (keys : List ℕ) → AllByRecursion (λ k. nat_cmp n k ≡ Less) keys → IsAbove (λ k. k) n keys
IsAbove-keys n [] less = tt
IsAbove-keys n (k ∷ keys) less = (let h = less.0 in grind (arith, nat_tests), IsAbove-keys n keys less.1)

Rises-keys : (keys : List ℕ) → IsStrictlySortedBy nat_cmp keys → RisesPlain keys
Rises-keys [] sorted = tt
Rises-keys (k ∷ keys) sorted = (IsAbove-keys k keys (sorted_head nat_cmp k keys sorted), Rises-keys keys (sorted_tail nat_cmp k keys sorted))

listed-keys : (n : ℕ) (keys : List ℕ) → list_any (λ k. k == n) keys ≡ has_key keys n
listed-keys n [] = refl
listed-keys n (k ∷ keys) = rw (same_test n k, listed-keys n keys) refl

listed-numbers_at : (n : ℕ) (o : Option Vertex) → has_key (numbers_at o) n ≡ lists_at o n
listed-numbers_at n None = refl
listed-numbers_at n (Some x) = refl

-- ---- the numbers of the activities around an event

none_above : (n : ℕ) (as' : List Activity) → IsAbove id_of n as' → list_any (λ k. k == n) (map id_of as') ≡ false
none_above n [] above = refl
none_above n (a ∷ as') above = rw (ne_eqb a.id n (λ same. absurd (omega (arith, above.0)))) (none_above n as' above.1)

listed-around : (e n : ℕ) (as' : List Activity) → Rises id_of as' → list_any (λ k. k == n) (map id_of (filter (is_end_of e) as')) ≡ is_end_in e (with_number id_of n as')
listed-around e n [] rises = refl
listed-around e n (a ∷ as') rises =
    elim (a.id == n) as (λ b. (a.id == n) ≡ b → list_any (λ k. k == n) (map id_of (filter (is_end_of e) (a ∷ as'))) ≡ is_end_in e (cond b (Some a) (with_number id_of n as'))) [
      | true ↦ λ same.
          let later : list_any (λ k. k == n) (map id_of (filter (is_end_of e) as')) ≡ false = none_above n (filter (is_end_of e) as') (IsAbove-filter id_of n (is_end_of e) as' (rw (← (eqb-true a.id n same)) rises.0)) in
          elim (is_end_of e a) as (λ b. list_any (λ k. k == n) (map id_of (cond b (a ∷ filter (is_end_of e) as') (filter (is_end_of e) as'))) ≡ b) [
            | true ↦ rw same refl
            | false ↦ later
          ]
      | false ↦ λ apart.
          let later = listed-around e n as' rises.1 in
          elim (is_end_of e a) as (λ b. list_any (λ k. k == n) (map id_of (cond b (a ∷ filter (is_end_of e) as') (filter (is_end_of e) as'))) ≡ is_end_in e (with_number id_of n as')) [
            | true ↦ rw apart later
            | false ↦ later
          ]
    ] refl

-- ---- two rising lists of the same numbers

not_in : (n : ℕ) (ns : List ℕ) → IsAbove (λ k. k) n ns → list_any (λ k. k == n) ns ≡ false
not_in n [] above = refl
not_in n (m ∷ ns) above = rw (ne_eqb m n (λ same. absurd (omega (arith, above.0)))) (not_in n ns above.1)

same_members : (ns ms : List ℕ) → RisesPlain ns → RisesPlain ms → ((n : ℕ) → list_any (λ k. k == n) ns ≡ list_any (λ k. k == n) ms) → ns ≡ ms
same_members [] [] rises rises' same = refl
same_members [] (m ∷ ms) rises rises' same = absurd (false≢true (same m ∙ rw (eq-eqb m m refl) refl))
same_members (n ∷ ns) [] rises rises' same = absurd (true≢false (sym (rw (eq-eqb n n refl) refl) ∙ same n))
same_members (n ∷ ns) (m ∷ ms) rises rises' same =
    elim (cases_order n m) [
      | inl head ↦
          let tail : ns ≡ ms = same_members ns ms rises.1 rises'.1 (λ k. elim (cases_eq n k) [
            | inl at ↦
                let left : list_any (λ j. j == k) ns ≡ false = not_in k ns (rw (← at) rises.0) in
                let right : list_any (λ j. j == k) ms ≡ false = not_in k ms (rw (← (sym head ∙ at)) rises'.0) in
                left ∙ sym right
            | inr apart ↦ rw (ne_eqb n k apart, ne_eqb m k (λ at. apart (head ∙ at))) at (same k)
          ]) in
          cc
      | inr apart ↦ elim apart [
        | inl below ↦
            let there : list_any (λ k. k == n) (m ∷ ms) ≡ false = not_in n (m ∷ ms) (below, IsAbove-less (λ k. k) n m ms (omega arith) rises'.0) in
            absurd (true≢false (sym (rw (eq-eqb n n refl) refl) ∙ same n ∙ there))
        | inr above ↦
            let there : list_any (λ k. k == m) (n ∷ ns) ≡ false = not_in m (n ∷ ns) (above, IsAbove-less (λ k. k) m n ns (omega arith) rises.0) in
            absurd (false≢true (sym there ∙ same m ∙ rw (eq-eqb m m refl) refl))
      ]
    ]

IsAbove-ids : (n : ℕ) (as' : List Activity) → IsAbove id_of n as' → IsAbove (λ k. k) n (map id_of as')
IsAbove-ids n [] above = tt
IsAbove-ids n (a ∷ as') above = (above.0, IsAbove-ids n as' above.1)

Rises-ids : (as' : List Activity) → Rises id_of as' → RisesPlain (map id_of as')
Rises-ids [] rises = tt
Rises-ids (a ∷ as') rises = (IsAbove-ids a.id as' rises.0, Rises-ids as' rises.1)

-- ---- what the numbers name

named_back : (activities zs : List Activity) → All (λ z. with_number id_of (id_of z) activities ≡ Some z) zs → filter_map (λ n. with_number id_of n activities) (map id_of zs) ≡ zs
named_back activities [] found = refl
named_back activities (z ∷ zs) found =
    rw (All-head (λ y. with_number id_of (id_of y) activities ≡ Some y) z zs found, named_back activities zs (All-tail (λ y. with_number id_of (id_of y) activities ≡ Some y) z zs found)) refl

names_back : (activities zs : List Activity) → All (λ z. with_number id_of (id_of z) activities ≡ Some z) zs → AreNames activities (map id_of zs)
names_back activities [] found = tt
names_back activities (z ∷ zs) found = (
  rw (All-head (λ y. with_number id_of (id_of y) activities ≡ Some y) z zs found) refl,
  names_back activities zs (All-tail (λ y. with_number id_of (id_of y) activities ≡ Some y) z zs found),
)

module _ (e : ℕ) (vertices : List Vertex) (activities : List Activity) (sorted : IsStrictlySortedBy nat_cmp (numbers_at (with_number vertex_number e vertices))) (rises : Rises id_of activities) (listed : AreListed vertices activities) where
  abbrev here : Option Vertex
  here = with_number vertex_number e vertices

  same_numbers : numbers_at here ≡ map id_of (filter (is_end_of e) activities)
  same_numbers =
      same_members (numbers_at here) (map id_of (filter (is_end_of e) activities)) (Rises-keys (numbers_at here) sorted) (Rises-ids (filter (is_end_of e) activities) (Rises-filter id_of (is_end_of e) activities rises))
      (λ n. listed-keys n (numbers_at here) ∙ listed-numbers_at n here ∙ listed e n ∙ sym (listed-around e n activities rises))

  found : All (λ z. with_number id_of (id_of z) activities ≡ Some z) (filter (is_end_of e) activities)
  found = All-filter (is_end_of e) (λ z. with_number id_of (id_of z) activities ≡ Some z) activities (All-found id_of activities rises)

  -- the numbers at an event name the activities around it
  pub named_by-numbers_at : named_by activities (numbers_at here) ≡ filter (is_end_of e) activities
  named_by-numbers_at = ap (filter_map (λ n. with_number id_of n activities)) same_numbers ∙ named_back activities _ found

  pub AreNames-numbers_at : AreNames activities (numbers_at here)
  AreNames-numbers_at = rw same_numbers (names_back activities _ found)
