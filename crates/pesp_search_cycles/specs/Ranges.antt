-- Ranges of whole numbers.
use Rattle.std.specs.Prelude.{◌≡◌, ℕ, ℤ, pos, negsuc, ◌-ℤ◌, ◌*ℤ◌, ◌⊎◌, ◌↔◌, ◌<◌, ◌≤ℤ◌, int_le, List, length, slice_index, slice_index_or, if◌then◌else◌}
use Rattle.pesp_search_cycles.specs.declared.range.Halves.{Halves}
use Rattle.pesp_search_cycles.specs.declared.range.Range.{Range}

-- the number is in the range
pub record IsIn (range : Range) (z : ℤ) : Type 0 where
  pub above : range.low ≤ℤ z
  pub below : z ≤ℤ range.high

-- what stands for a range where there is none
abbrev pub no_range : Range
no_range = record { low = pos 0; high = pos 0 }

-- there are so many ranges, and each has its number
pub record AllIn (ranges : List Range) (count : ℕ) (number : ℕ → ℤ) : Type 0 where
  pub long : length ranges ≡ count
  pub each : (k : ℕ) → k < count → IsIn (slice_index_or ranges k no_range) (number k)

-- each range has its number, and there may be more numbers
abbrev pub AreInFront : List Range → (ℕ → ℤ) → Type 0
AreInFront ranges number = (k : ℕ) → k < length ranges → IsIn (slice_index_or ranges k no_range) (number k)

-- the ranges in front have only the numbers that others have, too
pub record AreNarrowed (old others new : List Range) : Type 0 where
  pub long : length new ≡ length old
  pub both : (n : ℕ) (z : ℕ → ℤ) → AllIn new n z ↔ (AllIn old n z × AreInFront others z)

-- each range has the number at its place, and there are as many
abbrev pub AreIn : List Range → List ℕ → Type 0
AreIn ranges ys = AllIn ranges (length ys) (λ k. pos (slice_index ys k))

-- the rate times the end of the range at which this is least
abbrev pub least_product : ℤ → Range → ℤ
least_product rate range = if int_le (pos 0) rate then rate *ℤ range.low else rate *ℤ range.high

-- a whole number of steps
abbrev pub IsMultiple : ℕ → ℤ → Type 0
IsMultiple step z = (q : ℤ) × (z ≡ pos step *ℤ q)

-- a number, or 0 in place of one below it
abbrev pub clipped : ℤ → ℕ
clipped (pos n) = n
clipped (negsuc n) = 0

-- how far apart the ends are
abbrev pub width : Range → ℕ
width range = clipped (range.high -ℤ range.low)

-- each number of steps of the range is in one of the halves, which have no others and are less wide
pub record IsHalved (step : ℕ) (range : Range) (halves : Halves) : Type 0 where
  pub keeps : (z : ℤ) → IsMultiple step z → IsIn range z → IsIn halves.below z ⊎ IsIn halves.above z
  pub below_within : (z : ℤ) → IsIn halves.below z → IsIn range z
  pub above_within : (z : ℤ) → IsIn halves.above z → IsIn range z
  pub below_less : width halves.below < width range
  pub above_less : width halves.above < width range
