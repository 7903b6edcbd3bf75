-- Counts as they are seen: not how wide they are, but how great each of them can be.
use Rattle.std.specs.Prelude.{◌≡◌, ℕ, ◌+◌, ◌<◌, ◌≤◌, ◌⊎◌, List, length, slice_index_or}
use Rattle.pesp_counts_supports.specs.declared.counts.Values.{Values}
use Rattle.pesp_counts_supports.specs.declared.counts.Values.TheVariants.{Narrow, Wide}

-- counts, none of which can pass this number
pub record Counted : Type 0 where
  pub most : ℕ
  pub values : List ℕ

-- a byte has room for 255, and two bytes for 65,535
abbrev pub counted : Values → Counted
counted (Narrow counts) = record { most = 255; values = counts.items }
counted (Wide counts) = record { most = 65535; values = counts.items }

-- each count from one on can go down by the one sum and up by the other, and stays one of so many at most
pub record CanShift (most from : ℕ) (down up counts : List ℕ) : Type 0 where
  pub small : (i : ℕ) → i < length down → slice_index_or counts (from + i) 0 + slice_index_or up i 0 < 65536
  pub some : (i : ℕ) → i < length down → slice_index_or down i 0 ≤ slice_index_or counts (from + i) 0 + slice_index_or up i 0
  pub low : (i : ℕ) → i < length down → slice_index_or counts (from + i) 0 + slice_index_or up i 0 ≤ slice_index_or down i 0 + most

-- they went so, and no other did
pub record AreShifted (from : ℕ) (down up before after : List ℕ) : Type 0 where
  pub long : length after ≡ length before
  pub here : (i : ℕ) → i < length down → slice_index_or after (from + i) 0 + slice_index_or down i 0 ≡ slice_index_or before (from + i) 0 + slice_index_or up i 0
  pub elsewhere : (i : ℕ) → i < from ⊎ from + length down ≤ i → slice_index_or after i 0 ≡ slice_index_or before i 0
