-- The counts so far are moved, and the others as they were.
use Rattle.std.proofs.Common.{◌≡◌, ℕ, ◌+◌, ◌⊎◌, ◌<◌, ◌≤◌, length, slice_index_or}
use Rattle.pesp_counts_supports.proofs.widths.shift_bytes.Given as goal

abbrev pub invariant-loop-at : goal.invariant-loop-at
invariant-loop-at l =
    record {
      long : length l.bytes ≡ length l.fn.bytes;
      here : (i : ℕ) → i < l.at → slice_index_or l.bytes (l.from + i) 0 + slice_index_or l.down i 0 ≡ slice_index_or l.fn.bytes (l.from + i) 0 + slice_index_or l.up i 0;
      elsewhere : (i : ℕ) → (i < l.from) ⊎ (l.from + l.at ≤ i) → slice_index_or l.bytes i 0 ≡ slice_index_or l.fn.bytes i 0;
    }
