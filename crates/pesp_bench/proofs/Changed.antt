-- Lists with one member more, or one changed: what holds of the new list holds of the old one, and what their sums are.
use Rattle.std.proofs.Common.{◌≡◌, ℕ, ◌+◌, ◌<◌, ◌≤◌, ◌==◌, ◌&&◌, Bool, true, false, not, cond, nat_lt, is_some, List, [], ◌∷◌, ◌++◌, length, map, filter, get_or, None, Some, refl, sym, ap, subst, ◌∙◌, inl, inr, arith, All, sum_by}
use Rattle.std.specs.List.{list_any, range_with_len}
use Rattle.std.specs.Option.{option_map_or}
use Rattle.std.proofs.lemmas.Bool.{cases_lt, eq-eqb, eqb-true, false≢true, le-ltb, lt-ltb, ne_eqb}
use Rattle.std.proofs.lemmas.List.Elements.{All-append, All-cons, All-filter, All-head, All-nil, All-tail}
use Rattle.std.proofs.lemmas.List.Folds.{list_any_at, list_any_none}
use Rattle.std.proofs.lemmas.List.FromFn.{get_or-range_with_len, length-range_with_len}
use Rattle.std.proofs.lemmas.List.Sums.{sum_by-append, sum_by-cons}
use Rattle.std.proofs.lemmas.Option.{same_Some}
use Rattle.pesp_base.specs.Numbered.{change_in, put_in, with_number}
use Rattle.pesp_instance.proofs.Rising.{All-found, IfSome-with_number, Rises, filter_above-above, filter_below-above, number-with_number}

-- the member in the middle of a list
middle : {X : Type 0} (P : X → Type 0) (v : X) (xs ys : List X) → All P (xs ++ v ∷ ys) → P v
middle P v [] ys all = All-head P v ys all
middle P v (x ∷ xs) ys all = middle P v xs ys (All-tail P x (xs ++ v ∷ ys) all)

module _ {X : Type 0} (number : X → ℕ) where
  -- the members of smaller numbers and those of greater ones are all, where there is none of the number
  both_sides : (n : ℕ) (xs : List X) → Rises number xs → with_number number n xs ≡ None → filter (λ x. nat_lt (number x) n) xs ++ filter (λ x. nat_lt n (number x)) xs ≡ xs
  both_sides n [] rises none = refl
  both_sides n (x ∷ xs) rises none =
      elim (cases_lt (number x) n) [
        | inl low ↦
            let rest : with_number number n xs ≡ None = rw (ne_eqb (number x) n (λ same. absurd (omega (arith, low, same)))) at none in
            rw (lt-ltb (number x) n low, le-ltb n (number x) (omega (arith, low))) (ap (λ list. x ∷ list) (both_sides n xs rises.1 rest))
        | inr high ↦
            let apart : n ≡ number x → ⊥ = λ same. false≢true (sym (ap is_some none) ∙ found n x xs same) in
            let above : n < number x = omega (arith, high, apart) in
            rw (le-ltb (number x) n (omega (arith, above)), lt-ltb n (number x) above, filter_below-above number n (number x) xs (omega (arith, above)) rises.0, filter_above-above number n (number x) xs (omega (arith, above)) rises.0) refl
      ]
    where
      found : (n : ℕ) (x : X) (xs : List X) → n ≡ number x → is_some (with_number number n (x ∷ xs)) ≡ true
      found n x xs same = rw (eq-eqb (number x) n (sym same)) refl

  -- what holds of each member after one is changed held before, where it did of that one
  pub All-before_change : (P : X → Type 0) (n : ℕ) (change : X → X) (xs : List X) → All (λ x. number x ≡ n → P (change x) → P x) xs → All P (change_in number n change xs) → All P xs
  All-before_change P n change [] each all = All-nil P
  All-before_change P n change (x ∷ xs) each all =
      All-cons P x xs
      ((elim (number x == n) as (λ b. (number x == n) ≡ b → P (cond b (change x) x) → P x) [
        | true ↦ λ same is. All-head (λ y. number y ≡ n → P (change y) → P y) x xs each (eqb-true (number x) n same) is
        | false ↦ λ _ is. is
      ]) refl (All-head P _ (change_in number n change xs) all))
      (All-before_change P n change xs (All-tail (λ y. number y ≡ n → P (change y) → P y) x xs each) (All-tail P _ (change_in number n change xs) all))

  -- a sum does not fall where the share of the one that is changed does not
  pub sum_by-change : (f : X → ℕ) (n : ℕ) (change : X → X) (xs : List X) → All (λ x. number x ≡ n → f x ≤ f (change x)) xs → sum_by f xs ≤ sum_by f (change_in number n change xs)
  sum_by-change f n change [] each = omega arith
  sum_by-change f n change (x ∷ xs) each =
      let here : f x ≤ f (cond (number x == n) (change x) x) = (elim (number x == n) as (λ b. (number x == n) ≡ b → f x ≤ f (cond b (change x) x)) [
        | true ↦ λ same. All-head (λ y. number y ≡ n → f y ≤ f (change y)) x xs each (eqb-true (number x) n same)
        | false ↦ λ _. omega arith
      ]) refl in
      let rest = sum_by-change f n change xs (All-tail (λ y. number y ≡ n → f y ≤ f (change y)) x xs each) in
      omega (arith, sum_by-cons f x xs, sum_by-cons f (cond (number x == n) (change x) x) (change_in number n change xs), here, rest)

  -- the numbers stay
  pub numbers_stay : (n : ℕ) (change : X → X) → ((x : X) → number (change x) ≡ number x) → (xs : List X) → map number (change_in number n change xs) ≡ map number xs
  numbers_stay n change keeps [] = refl
  numbers_stay n change keeps (x ∷ xs) =
      let same : number (cond (number x == n) (change x) x) ≡ number x = elim (number x == n) as (λ b. number (cond b (change x) x) ≡ number x) [ true ↦ keeps x | false ↦ refl ] in
      rw same (ap (λ ys. number x ∷ ys) (numbers_stay n change keeps xs))

  -- a test that the member of a number fails
  pub of_number : (test : X → Bool) (n : ℕ) (xs : List X) → Rises number xs → option_map_or test (with_number number n xs) false ≡ false → All (λ x. number x ≡ n → test x ≡ false) xs
  of_number test n xs rises none = λ k d l same.
      sym (ap (λ o. option_map_or test o false) (ap (λ i. with_number number i xs) (sym same) ∙ All-found number xs rises k d l)) ∙ none

  -- what holds of each member and of one more holds of the list with it
  pub All-put_in : (P : X → Type 0) (v : X) (xs : List X) → All P xs → P v → All P (put_in number v xs)
  All-put_in P v xs all here =
      let low : X → Bool = λ x. nat_lt (number x) (number v) in
      let high : X → Bool = λ x. nat_lt (number v) (number x) in
      All-append P (filter low xs) (v ∷ filter high xs) (All-filter low P xs all) (All-cons P v (filter high xs) here (All-filter high P xs all))

  -- and what holds of that list holds of the one
  pub All-of_put_in : (P : X → Type 0) (v : X) (xs : List X) → All P (put_in number v xs) → P v
  All-of_put_in P v xs all = middle P v (filter (λ x. nat_lt (number x) (number v)) xs) (filter (λ x. nat_lt (number v) (number x)) xs) all

  -- a sum with one member more
  pub sum_by-put_in : (f : X → ℕ) (v : X) (xs : List X) → Rises number xs → with_number number (number v) xs ≡ None → sum_by f (put_in number v xs) ≡ sum_by f xs + f v
  sum_by-put_in f v xs rises none =
      let low : List X = filter (λ x. nat_lt (number x) (number v)) xs in
      let high : List X = filter (λ x. nat_lt (number v) (number x)) xs in
      let both : sum_by f (low ++ high) ≡ sum_by f xs = ap (sum_by f) (both_sides (number v) xs rises none) in
      omega (arith, sum_by-append f low (v ∷ high), sum_by-cons f v high, sum_by-append f low high, both)

  -- what holds of each member holds after one is changed, where it does of that one
  pub All-after_change : (P : X → Type 0) (n : ℕ) (change : X → X) (xs : List X) → All P xs → All (λ x. number x ≡ n → P (change x)) xs → All P (change_in number n change xs)
  All-after_change P n change [] all each = All-nil P
  All-after_change P n change (x ∷ xs) all each =
      All-cons P (cond (number x == n) (change x) x) (change_in number n change xs)
      ((elim (number x == n) as (λ b. (number x == n) ≡ b → P (cond b (change x) x)) [
        | true ↦ λ same. All-head (λ y. number y ≡ n → P (change y)) x xs each (eqb-true (number x) n same)
        | false ↦ λ _. All-head P x xs all
      ]) refl)
      (All-after_change P n change xs (All-tail P x xs all) (All-tail (λ y. number y ≡ n → P (change y)) x xs each))

  -- and of that one it holds then
  pub All-of_change : (P : X → Type 0) (n : ℕ) (change : X → X) (xs : List X) → All P (change_in number n change xs) → All (λ x. number x ≡ n → P (change x)) xs
  All-of_change P n change [] all = All-nil _
  All-of_change P n change (x ∷ xs) all =
      All-cons (λ y. number y ≡ n → P (change y)) x xs
      (λ same. subst (λ b. P (cond b (change x) x)) (eq-eqb (number x) n same) (All-head P _ (change_in number n change xs) all))
      (All-of_change P n change xs (All-tail P _ (change_in number n change xs) all))

  -- a sum stays where the share of the one that is changed does
  pub sum_by-change_same : (f : X → ℕ) (n : ℕ) (change : X → X) (xs : List X) → All (λ x. number x ≡ n → f (change x) ≡ f x) xs → sum_by f (change_in number n change xs) ≡ sum_by f xs
  sum_by-change_same f n change [] each = refl
  sum_by-change_same f n change (x ∷ xs) each =
      let here : f (cond (number x == n) (change x) x) ≡ f x = (elim (number x == n) as (λ b. (number x == n) ≡ b → f (cond b (change x) x) ≡ f x) [
        | true ↦ λ same. All-head (λ y. number y ≡ n → f (change y) ≡ f y) x xs each (eqb-true (number x) n same)
        | false ↦ λ _. refl
      ]) refl in
      let rest = sum_by-change_same f n change xs (All-tail (λ y. number y ≡ n → f (change y) ≡ f y) x xs each) in
      omega (arith, sum_by-cons f x xs, sum_by-cons f (cond (number x == n) (change x) x) (change_in number n change xs), here, rest)

  -- where a sum stays and no share falls, the share of the one that is changed stays
  pub share-stays : (f : X → ℕ) (n : ℕ) (change : X → X) (xs : List X) → All (λ x. number x ≡ n → f x ≤ f (change x)) xs → sum_by f (change_in number n change xs) ≡ sum_by f xs → All (λ x. number x ≡ n → f (change x) ≡ f x) xs
  share-stays f n change [] each same = All-nil _
  share-stays f n change (x ∷ xs) each same =
      let others = All-tail (λ y. number y ≡ n → f y ≤ f (change y)) x xs each in
      let here : f x ≤ f (cond (number x == n) (change x) x) = (elim (number x == n) as (λ b. (number x == n) ≡ b → f x ≤ f (cond b (change x) x)) [
        | true ↦ λ is. All-head (λ y. number y ≡ n → f y ≤ f (change y)) x xs each (eqb-true (number x) n is)
        | false ↦ λ _. omega arith
      ]) refl in
      let rest = sum_by-change f n change xs others in
      let first = sum_by-cons f x xs in
      let last = sum_by-cons f (cond (number x == n) (change x) x) (change_in number n change xs) in
      let one : f (cond (number x == n) (change x) x) ≡ f x = omega (arith, first, last, here, rest, same) in
      All-cons (λ y. number y ≡ n → f (change y) ≡ f y) x xs
      (λ is. subst (λ b. f (cond b (change x) x) ≡ f x) (eq-eqb (number x) n is) one)
      (share-stays f n change xs others (omega (arith, first, last, here, rest, same)))

  -- of the member of a number
  pub All-by_number : (P : X → Type 0) (n : ℕ) (xs : List X) (x : X) → Rises number xs → with_number number n xs ≡ Some x → P x → All (λ y. number y ≡ n → P y) xs
  All-by_number P n xs x rises found here = λ k d l same.
      let there : Some (get_or xs k d) ≡ Some x = sym (ap (λ i. with_number number i xs) (sym same) ∙ All-found number xs rises k d l) ∙ found in
      subst P (sym (same_Some (get_or xs k d) x there)) here

  pub of_All-by_number : (P : X → Type 0) (n : ℕ) (xs : List X) (x : X) → All (λ y. number y ≡ n → P y) xs → with_number number n xs ≡ Some x → P x
  of_All-by_number P n xs x all found = IfSome-with_number number (λ y. number y ≡ n → P y) n xs x all found (number-with_number number n xs x found)

-- what is left of a sum is no more than all of it
pub sum_by-filter : {X : Type 0} (f : X → ℕ) (keep : X → Bool) (xs : List X) → sum_by f (filter keep xs) ≤ sum_by f xs
sum_by-filter f keep [] = omega arith
sum_by-filter f keep (x ∷ xs) =
    elim (keep x) as (λ b. sum_by f (cond b (x ∷ filter keep xs) (filter keep xs)) ≤ sum_by f (x ∷ xs)) [
      | true ↦ omega (arith, sum_by-cons f x xs, sum_by-cons f x (filter keep xs), sum_by-filter f keep xs)
      | false ↦ omega (arith, sum_by-cons f x xs, sum_by-filter f keep xs)
    ]

-- a test that no number below n passes
pub none_below : (test : ℕ → Bool) (n d : ℕ) → d < n → list_any test (range_with_len 0 n) ≡ false → test d ≡ false
none_below test n d l none =
    elim (test d) as (λ b. test d ≡ b → b ≡ false) [
      | true ↦ λ is.
          let long : length (range_with_len 0 n) ≡ n = length-range_with_len 0 n in
          let here : get_or (range_with_len 0 n) d 0 ≡ d = omega (arith, get_or-range_with_len 0 n d 0 l) in
          absurd (false≢true (sym none ∙ list_any_at test (range_with_len 0 n) d 0 (omega (arith, l, long)) (ap test here ∙ is)))
      | false ↦ λ _. refl
    ] refl

-- what passes the first test and not both that and the failing of the second passes the second
pub then_old : (new old : Bool) → (new && not old) ≡ false → new ≡ true → old ≡ true
then_old true true none is = refl
then_old true false none is = absurd (false≢true (sym none))
then_old false old none is = absurd (false≢true is)

-- each of them fails it
pub all_below_fail : (test : ℕ → Bool) (n : ℕ) → ((d : ℕ) → d < n → test d ≡ false) → list_any test (range_with_len 0 n) ≡ false
all_below_fail test n each =
    list_any_none test (range_with_len 0 n)
    (λ k d l.
    let long : length (range_with_len 0 n) ≡ n = length-range_with_len 0 n in
    let m : k < n = omega (arith, l, long) in
    let here : get_or (range_with_len 0 n) k d ≡ k = omega (arith, get_or-range_with_len 0 n k d m) in
    ap test here ∙ each k m)

-- one more fails it
pub one_more_fails : (test : ℕ → Bool) (n : ℕ) → ((d : ℕ) → d < n → test d ≡ false) → test n ≡ false → (d : ℕ) → d < n + 1 → test d ≡ false
one_more_fails test n each here d l =
    elim (cases_lt d n) [
      | inl less ↦ each d less
      | inr least ↦ let same : d ≡ n = omega (arith, l, least) in ap test same ∙ here
    ]
