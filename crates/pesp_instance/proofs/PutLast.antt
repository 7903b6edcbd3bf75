-- The member of the greatest number of a rising list is put in last.
use Rattle.std.proofs.Common.{◌≡◌, ℕ, ◌<◌, nat_lt, List, [], ◌∷◌, ◌++◌, filter, None, refl, ap, arith}
use Rattle.std.proofs.lemmas.Bool.{le-ltb, lt-ltb, ne_eqb}
use Rattle.pesp_base.specs.Numbered.{put_in, with_number}
use Rattle.pesp_instance.proofs.Rising.{IsAbove, Rises}

module _ {X : Type 0} (number : X → ℕ) where
  above_member : (n : ℕ) (xs : List X) (x : X) (rest : List X) → IsAbove number n (xs ++ x ∷ rest) → n < number x
  above_member n [] x rest above = above.0
  above_member n (y ∷ xs) x rest above = above_member n xs x rest above.1

  -- of a rising list none before a member has its number
  pub none_before : (xs : List X) (x : X) (rest : List X) → Rises number (xs ++ x ∷ rest) → with_number number (number x) xs ≡ None
  none_before [] x rest rises = refl
  none_before (y ∷ xs) x rest rises =
      let low = above_member (number y) xs x rest rises.0 in
      rw (ne_eqb (number y) (number x) (λ same. absurd (omega (arith, low, same)))) (none_before xs x rest rises.1)

  all_low : (xs : List X) (x : X) (rest : List X) → Rises number (xs ++ x ∷ rest) → filter (λ y. nat_lt (number y) (number x)) xs ≡ xs
  all_low [] x rest rises = refl
  all_low (y ∷ xs) x rest rises =
      rw (lt-ltb (number y) (number x) (above_member (number y) xs x rest rises.0)) (ap (λ ys. y ∷ ys) (all_low xs x rest rises.1))

  none_high : (xs : List X) (x : X) (rest : List X) → Rises number (xs ++ x ∷ rest) → filter (λ y. nat_lt (number x) (number y)) xs ≡ []
  none_high [] x rest rises = refl
  none_high (y ∷ xs) x rest rises =
      let low = above_member (number y) xs x rest rises.0 in
      rw (le-ltb (number x) (number y) (omega (arith, low))) (none_high xs x rest rises.1)

  -- and the member is put in last
  pub put_last : (xs : List X) (x : X) (rest : List X) → Rises number (xs ++ x ∷ rest) → put_in number x xs ≡ xs ++ x ∷ []
  put_last xs x rest rises = rw (all_low xs x rest rises, none_high xs x rest rises) refl
