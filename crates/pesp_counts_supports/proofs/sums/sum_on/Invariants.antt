-- The sums so far go on as they did in the period before.
use Rattle.std.proofs.Common.{◌≡◌, ℕ, ◌+◌, ◌<◌, length, slice_index_or}
use Rattle.pesp_counts_supports.proofs.sums.sum_on.Given as goal

abbrev pub invariant-loop-at : goal.invariant-loop-at
invariant-loop-at l =
    record {
      long : length l.sums ≡ length l.fn.sums;
      once : (i : ℕ) → i < l.period → slice_index_or l.sums i 0 ≡ slice_index_or l.fn.sums i 0;
      on : (i : ℕ) → i < l.at → slice_index_or l.sums (l.period + i) 0 ≡ slice_index_or l.sums i 0 + l.many;
    }
