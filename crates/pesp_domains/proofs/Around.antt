-- How far one number is above another one, around the period.
use Rattle.std.proofs.Common.{◌≡◌, ℕ, ◌+◌, ◌-◌, ◌*◌, ◌%◌, ◌<◌, ◌≤◌, ◌⊎◌, ℤ, pos, ◌+ℤ◌, ◌-ℤ◌, ◌*ℤ◌, ◌∙◌, ap, inl, inr, sym, arith}
use Rattle.std.proofs.Math.Nat.{mod-eq_of_lt, mod-eq-sub-mod}
use Rattle.std.proofs.lemmas.Bool.{cases_lt}
use Rattle.std.proofs.lemmas.Int.{ints}
use Rattle.pesp_base.specs.Tensions.{residue}
use Rattle.pesp_base.proofs.Laws.{quotient, residue_is}
use Rattle.pesp_base.proofs.ResidueLaws.{residue-whole_periods}

-- a number below two periods
pub mod_below : (T n : ℕ) → n < T → n % T ≡ n
mod_below T n l = mod-eq_of_lt l

pub mod_above : (T n : ℕ) → T ≤ n → n < 2 * T → n % T ≡ n - T
mod_above T n low high = mod-eq-sub-mod low ∙ mod-eq_of_lt (omega (arith, low, high))

-- how far a residue is above another one
pub far_above : (T a s : ℕ) → a < T → s < T → a ≤ s → (s + (T - a)) % T ≡ s - a
far_above T a s al sl le = mod_above T (s + (T - a)) (omega (arith, al, le)) (omega (arith, al, sl, le)) ∙ omega (arith, al, le)

pub far_below : (T a s : ℕ) → a < T → s < a → (s + (T - a)) % T ≡ s + (T - a)
far_below T a s al lt = mod_below T (s + (T - a)) (omega (arith, al, lt))

-- around the period, from a residue on and below it
pub far_either : (T a s : ℕ) → a < T → s < T → (a ≤ s × ((s + (T - a)) % T ≡ s - a)) ⊎ (s < a × ((s + (T - a)) % T ≡ s + (T - a)))
far_either T a s al sl =
    elim (cases_lt s a) [
      | inl low ↦ inr (low, far_below T a s al low)
      | inr high ↦ inl (omega (arith, high), far_above T a s al sl (omega (arith, high)))
    ]

-- a number below two periods, less a period where it reaches one
pub lowered : (T n a : ℕ) → (n < T × (a ≡ n)) ⊎ (T ≤ n × (a ≡ n - T)) → n < 2 * T → (n % T ≡ a) × (a < T)
lowered T n a (inl is) high = (mod_below T n is.0 ∙ sym is.1, omega (arith, is.0, is.1))
lowered T n a (inr is) high = (mod_above T n is.0 high ∙ sym is.1, omega (arith, is.0, is.1, high))

-- in a difference the second number may be taken for its residue
pub residue_from : (period : ℕ) (y z : ℤ) → 0 < period → residue period (y -ℤ pos (residue period z)) ≡ residue period (y -ℤ z)
residue_from period y z some =
    let parts : y -ℤ pos (residue period z) ≡ (y -ℤ z) +ℤ pos period *ℤ quotient period z = omega (arith, ints, residue_is period z some) in
    ap (residue period) parts ∙ residue-whole_periods period (y -ℤ z) (quotient period z) some
