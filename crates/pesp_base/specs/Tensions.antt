-- Periodic tension, slack, and when an activity is met, for residues r and s of its two ends.
use Rattle.std.specs.Prelude.{◌≡◌, ℕ, Bool, ℤ, pos, ◌+ℤ◌, ◌-ℤ◌, ◌*ℤ◌, ◌≤ℤ◌, int_le, unsigned_abs}
use Rattle.std.specs.Int.{int_rem_euclid}
use Rattle.pesp_base.specs.Bounds.{Bounds}

-- some whole p brings the time from r to s, and p periods more, into the span
abbrev pub IsMet : ℕ → Bounds → ℕ → ℕ → Type 0
IsMet period span r s =
    (p : ℤ) × (span.lower ≤ℤ (pos s -ℤ pos r +ℤ pos period *ℤ p)) × ((pos s -ℤ pos r +ℤ pos period *ℤ p) ≤ℤ span.upper)

-- x is the time from r to s and some whole number of periods
abbrev pub InClass : ℕ → ℕ → ℕ → ℤ → Type 0
InClass period r s x = (p : ℤ) × (x ≡ pos s -ℤ pos r +ℤ pos period *ℤ p)

-- x is the least whole number in the class of the time from r to s that is not below the lower bound
pub record IsTension (period : ℕ) (span : Bounds) (r s : ℕ) (x : ℤ) : Type 0 where
  pub in_class : InClass period r s x
  pub not_below : span.lower ≤ℤ x
  pub least : (y : ℤ) → InClass period r s y → span.lower ≤ℤ y → x ≤ℤ y

-- the remainder of a whole number, from 0 to the period less 1
abbrev pub residue : ℕ → ℤ → ℕ
residue period z = unsigned_abs (int_rem_euclid z (pos period))

-- how far the tension is above the lower bound
abbrev pub slack_of : ℕ → Bounds → ℕ → ℕ → ℕ
slack_of period span r s = residue period (pos s -ℤ pos r -ℤ span.lower)

abbrev pub tension_of : ℕ → Bounds → ℕ → ℕ → ℤ
tension_of period span r s = span.lower +ℤ pos (slack_of period span r s)

-- whether the tension is within the span
abbrev pub is_met : ℕ → Bounds → ℕ → ℕ → Bool
is_met period span r s = int_le (tension_of period span r s) span.upper
