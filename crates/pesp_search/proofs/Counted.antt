-- The size of a tree and the place of times in it, by computation: at each path the domains are what some sweeps leave, which is tested.
use Rattle.std.proofs.Common.{◌≡◌, ℕ, zero, suc, ◌+◌, ◌<◌, Bool, true, false, cond, ◌&&◌, ◌||◌, ◌↔◌, is_some, unwrap_or, List, [], ◌∷◌, ◌++◌, length, slice_index, get_or, Option, Some, None, refl, sym, subst, ◌∙◌, ap, inl, inr, arith}
use Rattle.std.specs.List.{Contains, list_all, list_any, range_with_len}
use Rattle.std.proofs.lemmas.Bool.{false≢true, or_parts}
use Rattle.std.proofs.lemmas.List.Sums.{AllPass-from_list_all}
use Rattle.pesp_instance.specs.Network.{Network, event_ids}
use Rattle.pesp_domains.specs.declared.pair.Pair.{Pair}
use Rattle.pesp_domains.specs.Domains.{InDomains}
use Rattle.pesp_domains.proofs.Families.{here_or_there, in_range, not_in_none}
use Rattle.pesp_domains.proofs.Laws.{InDomains-admitted}
use Rattle.pesp_domains.proofs.Sweeps.{is_in, is_supported, left, swept}
use Rattle.pesp_search.specs.Paths.{IsDeadEnd, pairs_of}
use Rattle.pesp_search.specs.Tree.{IsPlaceFrom, IsPlaceOf, IsSize, IsSumFrom, IsTreeSize}
use Rattle.pesp_search.proofs.Events.{index_of}
use Rattle.pesp_search.proofs.Timed.{index_has_event}

-- ---- tests of lists

-- a test that some member passes is passed by one
any_found : (test : ℕ → Bool) (xs : List ℕ) → list_any test xs ≡ true → (x : ℕ) × (test x ≡ true)
any_found test [] is = absurd (false≢true is)
any_found test (x ∷ xs) is =
    elim (test x) as (λ b. test x ≡ b → (b || list_any test xs) ≡ true → (y : ℕ) × (test y ≡ true)) [
      | true ↦ λ passes _. (x, passes)
      | false ↦ λ _ later. any_found test xs later
    ] refl is

-- and one that none passes by no member
none_found : (test : ℕ → Bool) (xs : List ℕ) → list_any test xs ≡ false → (x : ℕ) → Contains xs x → test x ≡ true → ⊥
none_found test [] none x i is = not_in_none x i
none_found test (y ∷ xs) none x i is =
    let parts = or_parts _ _ none in
    elim (here_or_there x y xs i) [
      | inl same ↦ false≢true (sym parts.0 ∙ ap test same ∙ is)
      | inr later ↦ none_found test xs parts.1 x later is
    ]

-- a test that not all members pass is failed by one
one_fails : (test : ℕ → Bool) (xs : List ℕ) → list_all test xs ≡ false → (k : ℕ) × (k < length xs) × (test (get_or xs k 0) ≡ false)
one_fails test [] fails = absurd (false≢true (sym fails))
one_fails test (x ∷ xs) fails =
    elim (test x) as (λ b. test x ≡ b → (b && list_all test xs) ≡ false → (k : ℕ) × (k < length (x ∷ xs)) × (test (get_or (x ∷ xs) k 0) ≡ false)) [
      | true ↦ λ _ later. let w = one_fails test xs later in (suc w.0, (let l = w.1 in omega (arith, l)), w.2)
      | false ↦ λ is _. (0, omega arith, is)
    ] refl fails

-- ---- numbers that may be unknown

-- one more than both together, where both are known
abbrev with_node : Option ℕ → Option ℕ → Option ℕ
with_node None k = None
with_node (Some m) None = None
with_node (Some m) (Some k) = Some (suc (m + k))

none_some : (n : ℕ) → None ≡ Some n → ⊥
none_some n is = false≢true (ap (λ (o : Option ℕ). is_some o) is)

some_same : (m n : ℕ) → Some m ≡ Some n → n ≡ m
some_same m n is = sym (ap (λ (o : Option ℕ). unwrap_or o 0) is)

both_known : (a b : Option ℕ) (n : ℕ) → with_node a b ≡ Some n → (m : ℕ) × (a ≡ Some m) × ((k : ℕ) × (b ≡ Some k) × (n ≡ suc (m + k)))
both_known None b n is = absurd (none_some n is)
both_known (Some m) None n is = absurd (none_some n is)
both_known (Some m) (Some k) n is = (m, refl, (k, refl, some_same (suc (m + k)) n is))

-- over so many residues from r on, one for each that is inside, with what is below it
abbrev sum_of : (ℕ → Bool) → (ℕ → Option ℕ) → ℕ → ℕ → Option ℕ
sum_of inside below zero r = Some 0
sum_of inside below (suc residues) r = cond (inside r) (with_node (below r) (sum_of inside below residues (suc r))) (sum_of inside below residues (suc r))

-- ---- the tree

module _ (I : Network) (sweeps : ℕ) where
  -- what the sweeps leave after the path
  abbrev pairs_at : List ℕ → List Pair
  pairs_at path = left I (pairs_of (event_ids I) path) sweeps

  -- whether no further sweep takes a pair
  abbrev is_settled : List ℕ → List Pair → Bool
  is_settled path pairs = is_supported I (pairs_of (event_ids I) path) pairs

  -- whether the event has a residue left, and whether each event has
  abbrev some_left : List Pair → ℕ → Bool
  some_left pairs e = list_any (is_in pairs e) (range_with_len 0 I.period)

  abbrev each_left : List Pair → Bool
  each_left pairs = list_all (some_left pairs) (event_ids I)

  -- whether the residue of the event next after the path is left
  abbrev is_inside : List ℕ → List Pair → ℕ → Bool
  is_inside path pairs r = is_in pairs (slice_index (event_ids I) (length path)) r

  -- the size of a tree where that below each residue is known
  abbrev sized : List ℕ → List Pair → (ℕ → Option ℕ) → Option ℕ
  sized path pairs below = cond (is_settled path pairs) (cond (each_left pairs) (sum_of (is_inside path pairs) below I.period 0) (Some 0)) None

  -- the nodes below the path, with so many events yet without a time
  abbrev pub size_by : ℕ → List ℕ → Option ℕ
  size_by zero path = Some 0
  size_by (suc free) path = sized path (pairs_at path) (λ r. size_by free (path ++ r ∷ []))

  -- the nodes of residues before t
  abbrev before : List ℕ → List Pair → (ℕ → Option ℕ) → ℕ → Option ℕ
  before path pairs below t = cond (is_settled path pairs) (sum_of (is_inside path pairs) below t 0) None

  -- the nodes that are gone through until the times are met
  abbrev pub place_by : ℕ → List ℕ → List ℕ → Option ℕ
  place_by free path [] = Some 0
  place_by zero path (t ∷ times) = None
  place_by (suc free) path (t ∷ times) = with_node (before path (pairs_at path) (λ r. size_by free (path ++ r ∷ [])) t) (place_by free (path ++ t ∷ []) times)

  -- what is left are the domains
  left_is : (path : List ℕ) → is_settled path (pairs_at path) ≡ true → (e r : ℕ) → (is_in (pairs_at path) e r ≡ true) ↔ InDomains I (pairs_of (event_ids I) path) e r
  left_is path settled e r = swept I (pairs_of (event_ids I) path) sweeps settled e r

  alive : (path : List ℕ) → is_settled path (pairs_at path) ≡ true → each_left (pairs_at path) ≡ true → IsDeadEnd I path → ⊥
  alive path settled each (e, event, none) =
      let w = index_of I e event in
      let some : some_left (pairs_at path) e ≡ true =
      subst (λ f. some_left (pairs_at path) f ≡ true) w.2 (AllPass-from_list_all (some_left (pairs_at path)) (event_ids I) each w.0 0 w.1)
      in
      let found = any_found (is_in (pairs_at path) e) (range_with_len 0 I.period) some in
      none found.0 ((left_is path settled e found.0).0 found.1)

  dead : (path : List ℕ) → is_settled path (pairs_at path) ≡ true → each_left (pairs_at path) ≡ false → IsDeadEnd I path
  dead path settled fails =
      let w = one_fails (some_left (pairs_at path)) (event_ids I) fails in
      let e = get_or (event_ids I) w.0 0 in (
        e,
        index_has_event I w.0 w.1,
        λ r h.
            let below = (InDomains-admitted I (pairs_of (event_ids I) path) e r h).below in
            none_found (is_in (pairs_at path) e) (range_with_len 0 I.period) w.2 r (in_range 0 I.period r (omega arith) (omega (arith, below))) ((left_is path settled e r).1 h),
      )

  sum_is : (free : ℕ) (path : List ℕ) → is_settled path (pairs_at path) ≡ true → ((r m : ℕ) → size_by free (path ++ r ∷ []) ≡ Some m → IsSize I free (path ++ r ∷ []) m)
      → (residues r n : ℕ) → sum_of (is_inside path (pairs_at path)) (λ s. size_by free (path ++ s ∷ [])) residues r ≡ Some n → IsSumFrom (IsSize I free) I path residues r n
  sum_is free path settled each zero r n is = some_same 0 n is
  sum_is free path settled each (suc residues) r n is =
      let inside : ℕ → Bool = is_inside path (pairs_at path) in
      let below : ℕ → Option ℕ = λ s. size_by free (path ++ s ∷ []) in
      let later : Option ℕ = sum_of inside below residues (suc r) in
      elim (inside r) as (λ b. inside r ≡ b → cond b (with_node (below r) later) later ≡ Some n → IsSumFrom (IsSize I free) I path (suc residues) r n) [
        | true ↦ λ now both.
            let w = both_known (below r) later n both in
            inr ((left_is path settled _ r).0 now, (w.0, each r w.0 w.1, (w.2.0, sum_is free path settled each residues (suc r) w.2.0 w.2.1, w.2.2)))
        | false ↦ λ out rest. inl ((λ h. false≢true (sym out ∙ (left_is path settled _ r).1 h)), sum_is free path settled each residues (suc r) n rest)
      ] refl is

  -- what is computed is the size
  pub size_is : (free : ℕ) (path : List ℕ) (n : ℕ) → size_by free path ≡ Some n → IsSize I free path n
  size_is zero path n is = some_same 0 n is
  size_is (suc free) path n is =
      let pairs : List Pair = pairs_at path in
      let sum : Option ℕ = sum_of (is_inside path pairs) (λ r. size_by free (path ++ r ∷ [])) I.period 0 in
      elim (is_settled path pairs) as (λ b. is_settled path pairs ≡ b → cond b (cond (each_left pairs) sum (Some 0)) None ≡ Some n → IsSize I (suc free) path n) [
        | true ↦ λ settled. elim (each_left pairs) as (λ b. each_left pairs ≡ b → cond b sum (Some 0) ≡ Some n → IsSize I (suc free) path n) [
          | true ↦ λ each told. inr (alive path settled each, sum_is free path settled (λ r m. size_is free (path ++ r ∷ []) m) I.period 0 n told)
          | false ↦ λ fails none. inl (dead path settled fails, some_same 0 n none)
        ] refl
        | false ↦ λ _ none. absurd (none_some n none)
      ] refl is

  -- and the place
  pub place_is : (free : ℕ) (path times : List ℕ) (n : ℕ) → place_by free path times ≡ Some n → IsPlaceFrom I free path times n
  place_is free path [] n is = some_same 0 n is
  place_is zero path (t ∷ times) n is = absurd (none_some n is)
  place_is (suc free) path (t ∷ times) n is =
      let w = both_known (before path (pairs_at path) (λ r. size_by free (path ++ r ∷ [])) t) (place_by free (path ++ t ∷ []) times) n is in
      let total = w.2.2 in
      (w.0, sum_before w.0 w.1, (w.2.0, place_is free (path ++ t ∷ []) times w.2.0 w.2.1, omega (arith, total)))
    where
      sum_before : (m : ℕ) → before path (pairs_at path) (λ r. size_by free (path ++ r ∷ [])) t ≡ Some m → IsSumFrom (IsSize I free) I path t 0 m
      sum_before m told =
          let pairs : List Pair = pairs_at path in
          let sum : Option ℕ = sum_of (is_inside path pairs) (λ r. size_by free (path ++ r ∷ [])) t 0 in
          elim (is_settled path pairs) as (λ b. is_settled path pairs ≡ b → cond b sum None ≡ Some m → IsSumFrom (IsSize I free) I path t 0 m) [
            | true ↦ λ settled rest. sum_is free path settled (λ r k. size_is free (path ++ r ∷ []) k) t 0 m rest
            | false ↦ λ _ none. absurd (none_some m none)
          ] refl told

  pub tree_size_is : (n : ℕ) → size_by (length (event_ids I)) [] ≡ Some n → IsTreeSize I n
  tree_size_is n is = size_is (length (event_ids I)) [] n is

  pub place_of_is : (times : List ℕ) (n : ℕ) → place_by (length (event_ids I)) [] times ≡ Some n → IsPlaceOf I times n
  place_of_is times n is = place_is (length (event_ids I)) [] times n is
