-- What tests and comparisons of two numbers answer where their order is known.
use Rattle.std.proofs.Common.{◌≡◌, ℕ, ◌<◌, ◌==◌, nat_le, false, inl, inr, refl, sym, ◌∙◌, arith}
use Rattle.std.proofs.lemmas.Bool.{cases_eq, eq-eqb, le-ltb, lt-ltb, ne_eqb}
use Rattle.std.specs.Ordering.{nat_cmp}
use Rattle.std.specs.declared.cmp.Ordering.TheVariants.{Equal, Greater, Less}

pub nat_le_not : (n m : ℕ) → m < n → nat_le n m ≡ false
nat_le_not n m l = grind (arith, l)

pub cmp_below : (n m : ℕ) → n < m → nat_cmp n m ≡ Less
cmp_below n m l = rw (lt-ltb n m l) refl

pub cmp_same : (n m : ℕ) → n ≡ m → nat_cmp n m ≡ Equal
cmp_same n m same = rw (le-ltb n m (omega (arith, same)), eq-eqb n m same) refl

pub cmp_above : (n m : ℕ) → m < n → nat_cmp n m ≡ Greater
cmp_above n m l = rw (le-ltb n m (omega (arith, l)), ne_eqb n m (λ same. omega (arith, l, same))) refl

-- which of two numbers stands first does not count
pub eqb_turned : (m n : ℕ) → (m == n) ≡ (n == m)
eqb_turned m n =
    elim (cases_eq m n) [
      | inl same ↦ eq-eqb m n same ∙ sym (eq-eqb n m (sym same))
      | inr apart ↦ ne_eqb m n apart ∙ sym (ne_eqb n m (λ same. apart (sym same)))
    ]
