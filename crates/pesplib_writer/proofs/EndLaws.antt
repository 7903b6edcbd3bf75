-- The members of a rising list whose numbers pass a test, and one of its members more.
use Rattle.std.proofs.Common.{◌≡◌, ℕ, ◌<◌, ◌≤◌, ◌==◌, ◌||◌, Bool, true, false, cond, List, [], ◌∷◌, filter, Some, None, is_some, refl, sym, ap, subst, ◌∙◌, inl, inr, arith}
use Rattle.std.proofs.lemmas.Bool.{cases_lt, eq-eqb, eqb-true, lt-ltb, le-ltb, ne_eqb}
use Rattle.pesp_base.specs.Numbered.{put_in, with_number}
use Rattle.pesp_instance.proofs.Rising.{IsAbove, IsAbove-filter, Rises, filter_above-above, filter_below-above, with_number-above}

-- a test that passes one number more
abbrev pub or_at : (ℕ → Bool) → ℕ → ℕ → Bool
or_at test e n = test n || (e == n)

not_both : true ≡ false → ⊥
not_both same = cc

module _ {X : Type 0} (number : X → ℕ) where
  -- the members whose numbers pass a test
  abbrev pub kept : (ℕ → Bool) → List X → List X
  kept test xs = filter (λ x. test (number x)) xs

  module _ (test : ℕ → Bool) (e : ℕ) where
    -- a member whose number passes is among them
    pub with_number-passed : (xs : List X) → test e ≡ true → is_some (with_number number e xs) ≡ true → is_some (with_number number e (kept test xs)) ≡ true
    with_number-passed [] passes is = is
    with_number-passed (x ∷ xs) passes is =
        elim (test (number x)) as (λ b. test (number x) ≡ b → is_some (with_number number e (cond b (x ∷ kept test xs) (kept test xs))) ≡ true) [
          | true ↦ λ _. elim (number x == e) as (λ b. is_some (cond b (Some x) (with_number number e xs)) ≡ true → is_some (cond b (Some x) (with_number number e (kept test xs))) ≡ true) [
            | true ↦ λ here. refl
            | false ↦ λ later. with_number-passed xs passes later
          ] is
          | false ↦ λ fails.
              let apart : (number x == e) ≡ false = ne_eqb (number x) e (λ same. absurd (not_both (sym (ap test same ∙ passes) ∙ fails))) in
              with_number-passed xs passes (rw apart at is)
        ] refl

    -- one whose number fails is not
    pub with_number-failed : (xs : List X) → test e ≡ false → with_number number e (kept test xs) ≡ None
    with_number-failed [] fails = refl
    with_number-failed (x ∷ xs) fails =
        elim (test (number x)) as (λ b. test (number x) ≡ b → with_number number e (cond b (x ∷ kept test xs) (kept test xs)) ≡ None) [
          | true ↦ λ passes.
              let apart : (number x == e) ≡ false = ne_eqb (number x) e (λ same. absurd (not_both (sym passes ∙ ap test same ∙ fails))) in
              rw apart (with_number-failed xs fails)
          | false ↦ λ _. with_number-failed xs fails
        ] refl

    -- one number more that is below all others changes nothing
    kept_above : (n : ℕ) (xs : List X) → e ≤ n → IsAbove number n xs → kept (or_at test e) xs ≡ kept test xs
    kept_above n [] le above = refl
    kept_above n (x ∷ xs) le above =
        let apart : (e == number x) ≡ false = ne_eqb e (number x) (λ same. absurd (omega (arith, above.0))) in
        rw apart (elim (test (number x)) as (λ b. cond (b || false) (x ∷ kept (or_at test e) xs) (kept (or_at test e) xs) ≡ cond b (x ∷ kept test xs) (kept test xs)) [
          | true ↦ ap (λ ys. x ∷ ys) (kept_above n xs le above.1)
          | false ↦ kept_above n xs le above.1
        ])

  module _ (test : ℕ → Bool) (v : X) (fails : test (number v) ≡ false) where
    -- in front of members of greater numbers
    put_first : (xs : List X) → IsAbove number (number v) xs → put_in number v (kept test (v ∷ xs)) ≡ kept (or_at test (number v)) (v ∷ xs)
    put_first xs above =
        let others : IsAbove number (number v) (kept test xs) = IsAbove-filter number (number v) (λ x. test (number x)) xs above in
        rw (fails, eq-eqb (number v) (number v) refl, filter_below-above number (number v) (number v) (kept test xs) (omega arith) others, filter_above-above number (number v) (number v) (kept test xs) (omega arith) others, kept_above test (number v) (number v) xs (omega arith) above) refl

    -- after a member of a smaller number
    put_after : (x : X) (xs : List X) → number x < number v → put_in number v (kept test xs) ≡ kept (or_at test (number v)) xs → put_in number v (kept test (x ∷ xs)) ≡ kept (or_at test (number v)) (x ∷ xs)
    put_after x xs low later =
        let apart : (number v == number x) ≡ false = ne_eqb (number v) (number x) (λ same. absurd (omega arith)) in
        rw apart (elim (test (number x)) as (λ b. put_in number v (cond b (x ∷ kept test xs) (kept test xs)) ≡ cond (b || false) (x ∷ kept (or_at test (number v)) xs) (kept (or_at test (number v)) xs)) [
          | true ↦ rw (lt-ltb (number x) (number v) low, le-ltb (number v) (number x) (omega arith)) (ap (λ ys. x ∷ ys) later)
          | false ↦ later
        ])

    -- a member that is found after another has a greater number
    before_found : (x : X) (xs : List X) → IsAbove number (number x) xs → with_number number (number v) xs ≡ Some v → number x < number v
    before_found x xs above is = elim (cases_lt (number x) (number v)) [
      | inl low ↦ low
      | inr high ↦ absurd (none_there (sym (with_number-above number (number v) (number x) xs high above) ∙ is))
    ]
      where
        none_there : None ≡ Some v → ⊥
        none_there same = cc

    -- a member of the list put in among those that pass a test: they are those that pass it, or have its number
    pub put_in-kept : (xs : List X) → Rises number xs → with_number number (number v) xs ≡ Some v → put_in number v (kept test xs) ≡ kept (or_at test (number v)) xs
    put_in-kept [] rises is = absurd (cc)
    put_in-kept (x ∷ xs) rises is =
        elim (number x == number v) as (λ b. (number x == number v) ≡ b → cond b (Some x) (with_number number (number v) xs) ≡ Some v → put_in number v (kept test (x ∷ xs)) ≡ kept (or_at test (number v)) (x ∷ xs)) [
          | true ↦ λ same here.
              let e : v ≡ x = cc in
              let above : IsAbove number (number v) xs = subst (λ n. IsAbove number n xs) (eqb-true (number x) (number v) same) rises.0 in
              subst (λ y. put_in number v (kept test (y ∷ xs)) ≡ kept (or_at test (number v)) (y ∷ xs)) e (put_first xs above)
          | false ↦ λ apart later. put_after x xs (before_found x xs rises.0 later) (put_in-kept xs rises.1 later)
        ] refl is
