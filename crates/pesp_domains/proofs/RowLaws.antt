-- How long a row is, and its residues as a list.
use Rattle.std.proofs.Common.{◌≡◌, ℕ, zero, suc, ◌+◌, ◌-◌, ◌<◌, ◌≤◌, Bool, true, false, cond, nat_le, IsTrue, List, ◌∷◌, length, filter, find, Some, refl, sym, ◌∙◌, inl, inr, arith}
use Rattle.std.specs.List.{range_with_len}
use Rattle.std.proofs.lemmas.Bool.{cases_eq, cases_lt, false≢true}
use Rattle.std.proofs.lemmas.List.{get_or_past}
use Rattle.pesp_domains.specs.Domains.{holds}

-- a row that holds a residue has a test for it
pub within_row : (row : List Bool) (r : ℕ) → IsTrue (holds row r) → r < length row
within_row row r h =
    elim (cases_lt r (length row)) [
      | inl low ↦ low
      | inr high ↦ absurd (false≢true (sym (get_or_past row r false high) ∙ h))
    ]

module _ (test : ℕ → Bool) where
  -- from a number that is not above any of a range, the first residue that passes is the range's first
  find_all : (s a n : ℕ) → s ≤ a → find (λ r. nat_le s r) (filter test (range_with_len a n)) ≡ find test (range_with_len a n)
  find_all s a zero le = refl
  find_all s a (suc n) le =
      let low : nat_le s a ≡ true = grind (arith, le) in
      elim (test a) as (λ b. find (λ r. nat_le s r) (cond b (a ∷ filter test (range_with_len (a + 1) n)) (filter test (range_with_len (a + 1) n))) ≡ cond b (Some a) (find test (range_with_len (a + 1) n))) [
        | true ↦ rw low refl
        | false ↦ find_all s (a + 1) n (omega (arith, le))
      ]

  -- the first residue of a range that passes and is not below a number of it
  pub find_from : (s a n : ℕ) → a ≤ s → find (λ r. nat_le s r) (filter test (range_with_len a n)) ≡ find test (range_with_len s (a + n - s))
  find_from s a zero le = rw none refl
    where
      none : a + 0 - s ≡ 0
      none = omega (arith, le)
  find_from s a (suc n) le =
      elim (cases_eq a s) [
        | inl same ↦ let count : a + suc n - s ≡ suc n = omega (arith, same) in rw (count, ← same) (find_all a a (suc n) (omega arith))
        | inr apart ↦
            let high : nat_le s a ≡ false = grind (arith, le, apart) in
            let count : a + suc n - s ≡ (a + 1) + n - s = omega arith in
            let rest = find_from s (a + 1) n (omega (arith, le, apart)) in
            elim (test a) as (λ b. find (λ r. nat_le s r) (cond b (a ∷ filter test (range_with_len (a + 1) n)) (filter test (range_with_len (a + 1) n))) ≡ find test (range_with_len s (a + suc n - s))) [
              | true ↦ rw (high, count) rest
              | false ↦ rw count rest
            ]
      ]
