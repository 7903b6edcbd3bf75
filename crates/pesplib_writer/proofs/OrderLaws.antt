-- A member of a greater number than all before it is put at the end.
use Rattle.std.proofs.Common.{◌≡◌, ℕ, ◌<◌, ◌==◌, false, nat_lt, List, [], ◌∷◌, ◌++◌, filter, None, refl, ap, ◌∙◌, arith}
use Rattle.std.proofs.lemmas.Bool.{lt-ltb, le-ltb, ne_eqb}
use Rattle.std.specs.BTreeMap.{insert_entry, is_at}
use Rattle.std.specs.Map.{lookup}
use Rattle.std.specs.Ordering.{nat_cmp}
use Rattle.pesp_base.specs.Numbered.{put_in, with_number}
use Rattle.pesp_instance.proofs.Rising.{IsAbove, Rises}

module _ {X : Type 0} (number : X → ℕ) where
  -- every number is below n
  abbrev pub IsBelow : ℕ → List X → Type 0
  IsBelow n [] = Unit {0}
  IsBelow n (x ∷ xs) = (number x < n) × IsBelow n xs

  -- a number that is below all of a list is below each of it
  pub above_before : (n : ℕ) (xs rest : List X) (y : X) → IsAbove number n (xs ++ (y ∷ rest)) → n < number y
  above_before n [] rest y above = above.0
  above_before n (x ∷ xs) rest y above = above_before n xs rest y above.1

  -- in a rising list, those before a member are below it
  pub below_after : (xs rest : List X) (y : X) → Rises number (xs ++ (y ∷ rest)) → IsBelow (number y) xs
  below_after [] rest y rises = tt
  below_after (x ∷ xs) rest y rises = (above_before (number x) xs rest y rises.0, below_after xs rest y rises.1)

  module _ (n : ℕ) where
    -- no member of a list whose numbers are below n has the number n
    pub with_number-below : (xs : List X) → IsBelow n xs → with_number number n xs ≡ None
    with_number-below [] below = refl
    with_number-below (x ∷ xs) below =
        let apart : (number x == n) ≡ false = ne_eqb (number x) n (λ same. absurd (omega (arith, below.0))) in
        rw apart (with_number-below xs below.1)

    filter_below-below : (xs : List X) → IsBelow n xs → filter (λ y. nat_lt (number y) n) xs ≡ xs
    filter_below-below [] below = refl
    filter_below-below (x ∷ xs) below = rw (lt-ltb (number x) n below.0, filter_below-below xs below.1) refl

    filter_above-below : (xs : List X) → IsBelow n xs → filter (λ y. nat_lt n (number y)) xs ≡ []
    filter_above-below [] below = refl
    filter_above-below (x ∷ xs) below = rw (le-ltb n (number x) (omega (arith, below.0))) (filter_above-below xs below.1)

  -- a member of a greater number comes last
  pub put_in-below : (x : X) (xs : List X) → IsBelow (number x) xs → put_in number x xs ≡ xs ++ (x ∷ [])
  put_in-below x xs below =
      ap (λ ys. ys ++ (x ∷ filter (λ y. nat_lt (number x) (number y)) xs)) (filter_below-below (number x) xs below)
      ∙ ap (λ ys. xs ++ (x ∷ ys)) (filter_above-below (number x) xs below)

-- the number of an entry
abbrev pub key : ℕ × ℕ → ℕ
key x = x.0

module _ (n : ℕ) where
  -- the same of entries: a greater number has no entry
  pub lookup-below : (entries : List (ℕ × ℕ)) → IsBelow key n entries → lookup (is_at (nat_cmp n)) entries ≡ None
  lookup-below [] below = refl
  lookup-below (x ∷ entries) below =
      rw (le-ltb n x.0 (omega (arith, below.0)), ne_eqb n x.0 (λ same. absurd (omega (arith, below.0)))) (lookup-below entries below.1)

  -- its entry comes last
  pub insert_entry-below : (t : ℕ) (entries : List (ℕ × ℕ)) → IsBelow key n entries → insert_entry nat_cmp entries n t ≡ entries ++ ((n, t) ∷ [])
  insert_entry-below t [] below = refl
  insert_entry-below t (x ∷ entries) below =
      rw (le-ltb n x.0 (omega (arith, below.0)), ne_eqb n x.0 (λ same. absurd (omega (arith, below.0)))) (ap (λ es. x ∷ es) (insert_entry-below t entries below.1))
