-- Lemmas on lists whose members have numbers, each number once and ascending.
use Rattle.std.proofs.Common.{◌≡◌, ℕ, ◌+◌, ◌<◌, ◌≤◌, Bool, true, false, cond, ◌==◌, nat_lt, not, List, [], ◌∷◌, ◌++◌, length, map, filter, find, Option, Some, None, option_map, slice_index_or, refl, sym, ap, ◌∙◌, inl, inr, arith, All, length-append}
use Rattle.std.proofs.lemmas.Bool.{cases_order, lt-ltb, le-ltb, eq-eqb, ne_eqb, eqb-true, ltb-true}
use Rattle.std.proofs.lemmas.Bool.Decides.{nat_tests}
use Rattle.std.proofs.lemmas.List.Elements.{All-nil, All-cons, All-head, All-tail, All-append, All-filter}
use Rattle.std.proofs.lemmas.Map.Keys.{sorted_head, sorted_tail, sorted_from_strictly_increasing, IsStrictlyIncreasing-from_sorted}
use Rattle.std.specs.List.{AllByRecursion}
use Rattle.std.specs.List.Sorted.{IsStrictlySortedBy, IsStrictlyIncreasing}
use Rattle.std.specs.Ordering.{nat_cmp}
use Rattle.std.specs.declared.cmp.Ordering.TheVariants.{Less}
use Rattle.pesp_base.specs.Numbered.{with_number, put_in, take_out, change_in}

-- the first option that has a value
abbrev pub first_of : {X : Type 0} → Option X → Option X → Option X
first_of None o = o
first_of (Some x) o = Some x

pub find-append : {X : Type 0} (p : X → Bool) (xs ys : List X) → find p (xs ++ ys) ≡ first_of (find p xs) (find p ys)
find-append p [] ys = refl
find-append p (x ∷ xs) ys =
    elim (p x) as (λ b. cond b (Some x) (find p (xs ++ ys)) ≡ first_of (cond b (Some x) (find p xs)) (find p ys)) [
      | true ↦ refl
      | false ↦ find-append p xs ys
    ]

pub length-filter_le : {X : Type 0} (p : X → Bool) (xs : List X) → length (filter p xs) ≤ length xs
length-filter_le p [] = omega arith
length-filter_le p (x ∷ xs) =
    elim (p x) as (λ b. length (cond b (x ∷ filter p xs) (filter p xs)) ≤ length (x ∷ xs)) [
      | true ↦ omega (arith, length-filter_le p xs)
      | false ↦ omega (arith, length-filter_le p xs)
    ]

module _ {X : Type 0} (number : X → ℕ) where
  -- every number is above n
  abbrev pub IsAbove : ℕ → List X → Type 0
  IsAbove n [] = Unit {0}
  IsAbove n (x ∷ xs) = (n < number x) × IsAbove n xs

  -- each number is above those before it
  abbrev pub Rises : List X → Type 0
  Rises [] = Unit {0}
  Rises (x ∷ xs) = IsAbove (number x) xs × Rises xs

  pub IsAbove-less : (m n : ℕ) (xs : List X) → m ≤ n → IsAbove n xs → IsAbove m xs
  IsAbove-less m n [] le above = tt
  IsAbove-less m n (x ∷ xs) le above = (omega (arith, above.0), IsAbove-less m n xs le above.1)

  IsAbove-from_sorted : (n : ℕ) (xs : List X) → AllByRecursion (λ y. nat_cmp n y ≡ Less) (map number xs) → IsAbove n xs
  IsAbove-from_sorted n [] sorted = tt
  IsAbove-from_sorted n (x ∷ xs) sorted = (let h = sorted.0 in grind (arith, nat_tests), IsAbove-from_sorted n xs sorted.1)

  pub Rises-from_sorted : (xs : List X) → IsStrictlySortedBy nat_cmp (map number xs) → Rises xs
  Rises-from_sorted [] sorted = tt
  Rises-from_sorted (x ∷ xs) sorted = (
    IsAbove-from_sorted (number x) xs (sorted_head nat_cmp (number x) (map number xs) sorted),
    Rises-from_sorted xs (sorted_tail nat_cmp (number x) (map number xs) sorted),
  )

  pub Rises-from_increasing : (xs : List X) → IsStrictlyIncreasing (map number xs) → Rises xs
  Rises-from_increasing xs increasing = Rises-from_sorted xs (sorted_from_strictly_increasing (map number xs) increasing)

  sorted_from_above : (n : ℕ) (xs : List X) → IsAbove n xs → AllByRecursion (λ y. nat_cmp n y ≡ Less) (map number xs)
  sorted_from_above n [] above = tt
  sorted_from_above n (x ∷ xs) above = (let h = above.0 in rw (lt-ltb n (number x) above.0) refl, sorted_from_above n xs above.1)

  pub sorted_from_rises : (xs : List X) → Rises xs → IsStrictlySortedBy nat_cmp (map number xs)
  unfolding IsStrictlySortedBy
  sorted_from_rises [] rises = tt
  sorted_from_rises (x ∷ xs) rises = (sorted_from_above (number x) xs rises.0, sorted_from_rises xs rises.1)

  pub increasing_from_rises : (xs : List X) → Rises xs → IsStrictlyIncreasing (map number xs)
  increasing_from_rises xs rises = IsStrictlyIncreasing-from_sorted (map number xs) (sorted_from_rises xs rises)

  -- a list whose numbers are above n has no member of number n, and none of a number below
  pub with_number-above : (m n : ℕ) (xs : List X) → m ≤ n → IsAbove n xs → with_number number m xs ≡ None
  with_number-above m n [] le above = refl
  with_number-above m n (x ∷ xs) le above =
      let apart : (number x == m) ≡ false = ne_eqb (number x) m (λ same. absurd (omega (arith, above.0, same))) in
      rw apart (with_number-above m n xs le above.1)

  pub filter_below-above : (m n : ℕ) (xs : List X) → m ≤ n → IsAbove n xs → filter (λ y. nat_lt (number y) m) xs ≡ []
  filter_below-above m n [] le above = refl
  filter_below-above m n (x ∷ xs) le above =
      let high : nat_lt (number x) m ≡ false = le-ltb (number x) m (omega (arith, above.0)) in
      rw high (filter_below-above m n xs le above.1)

  pub filter_above-above : (m n : ℕ) (xs : List X) → m ≤ n → IsAbove n xs → filter (λ y. nat_lt m (number y)) xs ≡ xs
  filter_above-above m n [] le above = refl
  filter_above-above m n (x ∷ xs) le above =
      let high : nat_lt m (number x) ≡ true = lt-ltb m (number x) (omega (arith, above.0)) in
      rw (high, filter_above-above m n xs le above.1) refl

  pub take_out-above : (m n : ℕ) (xs : List X) → m ≤ n → IsAbove n xs → take_out number m xs ≡ xs
  take_out-above m n [] le above = refl
  take_out-above m n (x ∷ xs) le above =
      let apart : (number x == m) ≡ false = ne_eqb (number x) m (λ same. absurd (omega (arith, above.0, same))) in
      rw (apart, take_out-above m n xs le above.1) refl

  pub change_in-above : (m n : ℕ) (change : X → X) (xs : List X) → m ≤ n → IsAbove n xs → change_in number m change xs ≡ xs
  change_in-above m n change [] le above = refl
  change_in-above m n change (x ∷ xs) le above =
      let apart : (number x == m) ≡ false = ne_eqb (number x) m (λ same. absurd (omega (arith, above.0, same))) in
      rw (apart, change_in-above m n change xs le above.1) refl

  -- what stands under a number
  pub number-with_number : (n : ℕ) (xs : List X) (x : X) → with_number number n xs ≡ Some x → number x ≡ n
  number-with_number n [] x is = absurd (cc)
  number-with_number n (y ∷ xs) x is =
      elim (number y == n) as (λ b. (number y == n) ≡ b → cond b (Some y) (with_number number n xs) ≡ Some x → number x ≡ n) [
        | true ↦ λ same at. let e : y ≡ x = cc in ap number (sym e) ∙ eqb-true (number y) n same
        | false ↦ λ apart later. number-with_number n xs x later
      ] refl is

  -- a change of the member that stands under a number
  pub change_in-with_number : (n : ℕ) (change : X → X) (xs : List X) (x : X) → Rises xs → with_number number n xs ≡ Some x → change_in number n (λ _. change x) xs ≡ change_in number n change xs
  change_in-with_number n change [] x rises is = refl
  change_in-with_number n change (y ∷ xs) x rises is =
      elim (number y == n) as (λ b. (number y == n) ≡ b → cond b (Some y) (with_number number n xs) ≡ Some x → cond b (change x) y ∷ change_in number n (λ _. change x) xs ≡ cond b (change y) y ∷ change_in number n change xs) [
        | true ↦ λ same at.
            let e : x ≡ y = cc in
            let above : n ≤ number y = omega (arith, eqb-true (number y) n same) in
            rw (change_in-above n (number y) (λ _. change x) xs above rises.0, change_in-above n (number y) change xs above rises.0, e) refl
        | false ↦ λ apart later. ap (λ zs. y ∷ zs) (change_in-with_number n change xs x rises.1 later)
      ] refl is

  -- ---- what stands under a number after a change

  with_number-filter : (test : ℕ → Bool) (m : ℕ) (xs : List X) → with_number number m (filter (λ y. test (number y)) xs) ≡ cond (test m) (with_number number m xs) None
  with_number-filter test m [] = elim (test m) as (λ b. ◌≡◌ {A = Option X} None (cond b None None)) [ true ↦ refl | false ↦ refl ]
  with_number-filter test m (x ∷ xs) =
      let later = with_number-filter test m xs in
      elim (test (number x)) as (λ b. test (number x) ≡ b → with_number number m (cond b (x ∷ filter (λ y. test (number y)) xs) (filter (λ y. test (number y)) xs)) ≡ cond (test m) (cond (number x == m) (Some x) (with_number number m xs)) None) [
        | true ↦ λ kept. elim (number x == m) as (λ b. (number x == m) ≡ b → cond b (Some x) (with_number number m (filter (λ y. test (number y)) xs)) ≡ cond (test m) (cond b (Some x) (with_number number m xs)) None) [
          | true ↦ λ same. let at : test m ≡ true = ap test (sym (eqb-true (number x) m same)) ∙ kept in rw at refl
          | false ↦ λ apart. later
        ] refl
        | false ↦ λ left. elim (number x == m) as (λ b. (number x == m) ≡ b → with_number number m (filter (λ y. test (number y)) xs) ≡ cond (test m) (cond b (Some x) (with_number number m xs)) None) [
          | true ↦ λ same. let at : test m ≡ false = ap test (sym (eqb-true (number x) m same)) ∙ left in later ∙ (rw at refl)
          | false ↦ λ apart. later
        ] refl
      ] refl

  joined : (n m : ℕ) (v : X) (o : Option X) → first_of (cond (nat_lt m n) o None) (cond (n == m) (Some v) (cond (nat_lt n m) o None)) ≡ cond (n == m) (Some v) o
  joined n m v o =
      elim (cases_order m n) [
        | inl same ↦ rw (eq-eqb n m (sym same), le-ltb m n (omega arith)) refl
        | inr apart ↦ elim apart [
          | inl below ↦ rw (ne_eqb n m (λ same. absurd (omega arith)), lt-ltb m n below, le-ltb n m (omega arith)) (elim o as (λ p. first_of p None ≡ p) [ None ↦ refl | Some w ↦ refl ])
          | inr above ↦ rw (ne_eqb n m (λ same. absurd (omega arith)), le-ltb m n (omega arith), lt-ltb n m above) refl
        ]
      ]

  pub with_number-put_in : (m : ℕ) (v : X) (xs : List X) → with_number number m (put_in number v xs) ≡ cond (number v == m) (Some v) (with_number number m xs)
  with_number-put_in m v xs =
      let below = with_number-filter (λ k. nat_lt k (number v)) m xs in
      let above = with_number-filter (λ k. nat_lt (number v) k) m xs in
      find-append (λ x. number x == m) (filter (λ y. nat_lt (number y) (number v)) xs) (v ∷ filter (λ y. nat_lt (number v) (number y)) xs)
      ∙ rw (below, above) (joined (number v) m v (with_number number m xs))

  pub with_number-take_out : (m n : ℕ) (xs : List X) → with_number number m (take_out number n xs) ≡ cond (not (m == n)) (with_number number m xs) None
  with_number-take_out m n xs = with_number-filter (λ k. not (k == n)) m xs

  pub with_number-change_in : (m n : ℕ) (change : X → X) → ((x : X) → number (change x) ≡ number x) → (xs : List X) → with_number number m (change_in number n change xs) ≡ option_map (λ x. cond (number x == n) (change x) x) (with_number number m xs)
  with_number-change_in m n change keeps [] = refl
  with_number-change_in m n change keeps (x ∷ xs) =
      let same : number (cond (number x == n) (change x) x) ≡ number x = elim (number x == n) as (λ b. number (cond b (change x) x) ≡ number x) [ true ↦ keeps x | false ↦ refl ] in
      rw same (elim (number x == m) as (λ b. cond b (Some (cond (number x == n) (change x) x)) (with_number number m (change_in number n change xs)) ≡ option_map (λ y. cond (number y == n) (change y) y) (cond b (Some x) (with_number number m xs))) [
        | true ↦ refl
        | false ↦ with_number-change_in m n change keeps xs
      ])

  -- a member y in the place of the one of its number
  pub with_number-replaced : (y x : X) (xs : List X) → with_number number (number y) xs ≡ Some x → with_number number (number y) (change_in number (number y) (λ _. y) xs) ≡ Some y
  with_number-replaced y x [] is = absurd (cc)
  with_number-replaced y x (z ∷ xs) is =
      elim (number z == number y) as (λ b. (number z == number y) ≡ b → cond b (Some z) (with_number number (number y) xs) ≡ Some x → with_number number (number y) (cond b y z ∷ change_in number (number y) (λ _. y) xs) ≡ Some y) [
        | true ↦ λ same at. rw (eq-eqb (number y) (number y) refl) refl
        | false ↦ λ apart later. rw apart (with_number-replaced y x xs later)
      ] refl is

  pub with_number-others : (m : ℕ) (y : X) (xs : List X) → (number y == m) ≡ false → with_number number m (change_in number (number y) (λ _. y) xs) ≡ with_number number m xs
  with_number-others m y [] apart = refl
  with_number-others m y (z ∷ xs) apart =
      elim (number z == number y) as (λ b. (number z == number y) ≡ b → with_number number m (cond b y z ∷ change_in number (number y) (λ _. y) xs) ≡ cond (number z == m) (Some z) (with_number number m xs)) [
        | true ↦ λ same.
            let other : (number z == m) ≡ false = ap (λ n. n == m) (eqb-true (number z) (number y) same) ∙ apart in
            rw (apart, other) (with_number-others m y xs apart)
        | false ↦ λ differs. ap (cond (number z == m) (Some z)) (with_number-others m y xs apart)
      ] refl

  -- ---- what holds of each member after a change

  pub All-put_in : (P : X → Type 0) (v : X) (xs : List X) → P v → All P xs → All P (put_in number v xs)
  All-put_in P v xs at all =
      All-append P _ _ (All-filter _ P xs all) (All-cons P v _ at (All-filter _ P xs all))

  pub All-take_out : (P : X → Type 0) (n : ℕ) (xs : List X) → All P xs → All P (take_out number n xs)
  All-take_out P n xs all = All-filter _ P xs all

  pub All-change_in : (P : X → Type 0) (n : ℕ) (change : X → X) (xs : List X) → ((x : X) → P x → P (change x)) → All P xs → All P (change_in number n change xs)
  All-change_in P n change [] keeps all = All-nil P
  All-change_in P n change (x ∷ xs) keeps all =
      All-cons P _ _ (elim (number x == n) as (λ b. P (cond b (change x) x)) [ true ↦ keeps x (All-head P x xs all) | false ↦ All-head P x xs all ]) (All-change_in P n change xs keeps (All-tail P x xs all))

  -- what holds of each member holds of what stands under a number
  pub IfSome-with_number : (P : X → Type 0) (n : ℕ) (xs : List X) (x : X) → All P xs → with_number number n xs ≡ Some x → P x
  IfSome-with_number P n [] x all is = absurd (cc)
  IfSome-with_number P n (y ∷ xs) x all is =
      elim (number y == n) as (λ b. cond b (Some y) (with_number number n xs) ≡ Some x → P x) [
        | true ↦ λ at. let e : y ≡ x = cc in rw (← e) (All-head P y xs all)
        | false ↦ λ later. IfSome-with_number P n xs x (All-tail P y xs all) later
      ] is

  pub All-from_above : (n : ℕ) (xs : List X) → IsAbove n xs → All (λ y. n < number y) xs
  All-from_above n [] above = All-nil _
  All-from_above n (x ∷ xs) above = All-cons (λ y. n < number y) x xs above.0 (All-from_above n xs above.1)

  -- each member of a rising list stands under its number
  pub All-found : (xs : List X) → Rises xs → All (λ x. with_number number (number x) xs ≡ Some x) xs
  All-found [] rises = All-nil _
  All-found (x ∷ xs) rises =
      All-cons (λ y. with_number number (number y) (x ∷ xs) ≡ Some y) x xs (rw (eq-eqb (number x) (number x) refl) refl)
      (λ k d within.
      let apart : (number x == number (slice_index_or xs k d)) ≡ false = ne_eqb _ _ (λ same. absurd (omega (arith, All-from_above (number x) xs rises.0 k d within, same))) in
      rw apart (All-found xs rises.1 k d within))

  -- ---- the numbers rise after a change, too

  pub IsAbove-filter : (n : ℕ) (keep : X → Bool) (xs : List X) → IsAbove n xs → IsAbove n (filter keep xs)
  IsAbove-filter n keep [] above = tt
  IsAbove-filter n keep (x ∷ xs) above =
      elim (keep x) as (λ b. IsAbove n (cond b (x ∷ filter keep xs) (filter keep xs))) [
        | true ↦ (above.0, IsAbove-filter n keep xs above.1)
        | false ↦ IsAbove-filter n keep xs above.1
      ]

  pub Rises-filter : (keep : X → Bool) (xs : List X) → Rises xs → Rises (filter keep xs)
  Rises-filter keep [] rises = tt
  Rises-filter keep (x ∷ xs) rises =
      elim (keep x) as (λ b. Rises (cond b (x ∷ filter keep xs) (filter keep xs))) [
        | true ↦ (IsAbove-filter (number x) keep xs rises.0, Rises-filter keep xs rises.1)
        | false ↦ Rises-filter keep xs rises.1
      ]

  pub Rises-take_out : (n : ℕ) (xs : List X) → Rises xs → Rises (take_out number n xs)
  Rises-take_out n xs rises = Rises-filter _ xs rises

  IsAbove-kept : (m n : ℕ) (xs : List X) → m ≤ n → IsAbove m (filter (λ y. nat_lt n (number y)) xs)
  IsAbove-kept m n [] le = tt
  IsAbove-kept m n (x ∷ xs) le =
      elim (nat_lt n (number x)) as (λ b. nat_lt n (number x) ≡ b → IsAbove m (cond b (x ∷ filter (λ y. nat_lt n (number y)) xs) (filter (λ y. nat_lt n (number y)) xs))) [
        | true ↦ λ above. (omega (arith, ltb-true n (number x) above), IsAbove-kept m n xs le)
        | false ↦ λ _. IsAbove-kept m n xs le
      ] refl

  IsAbove-append : (m : ℕ) (xs ys : List X) → IsAbove m xs → IsAbove m ys → IsAbove m (xs ++ ys)
  IsAbove-append m [] ys above later = later
  IsAbove-append m (x ∷ xs) ys above later = (above.0, IsAbove-append m xs ys above.1 later)

  Rises-put_below : (v : X) (xs zs : List X) → Rises xs → Rises (v ∷ zs) → Rises (filter (λ y. nat_lt (number y) (number v)) xs ++ v ∷ zs)
  Rises-put_below v [] zs rises later = later
  Rises-put_below v (x ∷ xs) zs rises later =
      elim (nat_lt (number x) (number v)) as (λ b. nat_lt (number x) (number v) ≡ b → Rises (cond b (x ∷ filter (λ y. nat_lt (number y) (number v)) xs) (filter (λ y. nat_lt (number y) (number v)) xs) ++ v ∷ zs)) [
        | true ↦ λ below.
            let lt : number x < number v = ltb-true (number x) (number v) below in (
              IsAbove-append (number x) (filter (λ y. nat_lt (number y) (number v)) xs) (v ∷ zs) (IsAbove-filter (number x) _ xs rises.0) (lt, IsAbove-less (number x) (number v) zs (omega arith) later.0),
              Rises-put_below v xs zs rises.1 later,
            )
        | false ↦ λ _. Rises-put_below v xs zs rises.1 later
      ] refl

  pub Rises-put_in : (v : X) (xs : List X) → Rises xs → Rises (put_in number v xs)
  Rises-put_in v xs rises =
      Rises-put_below v xs (filter (λ y. nat_lt (number v) (number y)) xs) rises (IsAbove-kept (number v) (number v) xs (omega arith), Rises-filter _ xs rises)

  IsAbove-change_in : (m n : ℕ) (change : X → X) → ((x : X) → number (change x) ≡ number x) → (xs : List X) → IsAbove m xs → IsAbove m (change_in number n change xs)
  IsAbove-change_in m n change keeps [] above = tt
  IsAbove-change_in m n change keeps (x ∷ xs) above =
      let same : number (cond (number x == n) (change x) x) ≡ number x = elim (number x == n) as (λ b. number (cond b (change x) x) ≡ number x) [ true ↦ keeps x | false ↦ refl ] in
      (omega (arith, above.0, same), IsAbove-change_in m n change keeps xs above.1)

  pub Rises-change_in : (n : ℕ) (change : X → X) → ((x : X) → number (change x) ≡ number x) → (xs : List X) → Rises xs → Rises (change_in number n change xs)
  Rises-change_in n change keeps [] rises = tt
  Rises-change_in n change keeps (x ∷ xs) rises =
      let same : number (cond (number x == n) (change x) x) ≡ number x = elim (number x == n) as (λ b. number (cond b (change x) x) ≡ number x) [ true ↦ keeps x | false ↦ refl ] in
      (rw same (IsAbove-change_in (number x) n change keeps xs rises.0), Rises-change_in n change keeps xs rises.1)

  -- a new member that is put in and taken out again
  pub take_out-put_in : (v : X) (xs : List X) → Rises xs → with_number number (number v) xs ≡ None → take_out number (number v) (put_in number v xs) ≡ xs
  take_out-put_in v [] rises none = rw (eq-eqb (number v) (number v) refl) refl
  take_out-put_in v (x ∷ xs) rises none =
      let n = number v in
      elim (cases_order n (number x)) [
        | inl same ↦ absurd (taken (rw (eq-eqb (number x) n (sym same)) at none))
        | inr apart ↦ elim apart [
          | inl below ↦
              let high : n ≤ number x = omega arith in
              rw (le-ltb (number x) n high, lt-ltb n (number x) below, filter_below-above n (number x) xs high rises.0, filter_above-above n (number x) xs high rises.0, eq-eqb n n refl, ne_eqb (number x) n (λ same. absurd (omega arith)), take_out-above n (number x) xs high rises.0) refl
          | inr above ↦
              let later : with_number number n xs ≡ None = rw (ne_eqb (number x) n (λ same. absurd (omega arith))) at none in
              rw (lt-ltb (number x) n above, le-ltb n (number x) (omega arith), ne_eqb (number x) n (λ same. absurd (omega arith))) (ap (λ ys. x ∷ ys) (take_out-put_in v xs rises.1 later))
        ]
      ]
    where
      taken : {x : X} → Some x ≡ None → ⊥
      taken same = cc

  -- ---- how many there are after a change

  parts : (n : ℕ) (xs : List X) → with_number number n xs ≡ None → length (filter (λ y. nat_lt (number y) n) xs) + length (filter (λ y. nat_lt n (number y)) xs) ≡ length xs
  parts n [] none = omega arith
  parts n (x ∷ xs) none =
      elim (cases_order n (number x)) [
        | inl same ↦ absurd (taken (rw (eq-eqb (number x) n (sym same)) at none))
        | inr apart ↦ elim apart [
          | inl below ↦
              let later : with_number number n xs ≡ None = rw (ne_eqb (number x) n (λ same. absurd (omega arith))) at none in
              rw (le-ltb (number x) n (omega arith), lt-ltb n (number x) below) (omega (arith, parts n xs later))
          | inr above ↦
              let later : with_number number n xs ≡ None = rw (ne_eqb (number x) n (λ same. absurd (omega arith))) at none in
              rw (lt-ltb (number x) n above, le-ltb n (number x) (omega arith)) (omega (arith, parts n xs later))
        ]
      ]
    where
      taken : {x : X} → Some x ≡ None → ⊥
      taken same = cc

  pub length-put_in : (v : X) (xs : List X) → with_number number (number v) xs ≡ None → length (put_in number v xs) ≡ length xs + 1
  length-put_in v xs none =
      omega (arith, length-append (filter (λ y. nat_lt (number y) (number v)) xs) (v ∷ filter (λ y. nat_lt (number v) (number y)) xs), parts (number v) xs none)

  pub length-take_out : (n : ℕ) (xs : List X) → length (take_out number n xs) ≤ length xs
  length-take_out n xs = length-filter_le _ xs

  pub length-change_in : (n : ℕ) (change : X → X) (xs : List X) → length (change_in number n change xs) ≡ length xs
  length-change_in n change [] = refl
  length-change_in n change (x ∷ xs) = omega (arith, length-change_in n change xs)
