-- The sums so far are those of the residues so far.
use Rattle.std.proofs.Common.{◌≡◌, ℕ, ◌<◌, length, slice_index_or}
use Rattle.pesp_counts_supports.specs.Blocks.{is_beyond, sum_below}
use Rattle.pesp_counts_supports.proofs.sums.sum_beyond.Given as goal

abbrev pub invariant-loop-at : goal.invariant-loop-at
invariant-loop-at l =
    record {
      long : length l.sums ≡ length l.fn.sums;
      sums : (i : ℕ) → i < l.at → slice_index_or l.sums i 0 ≡ sum_below l.period (is_beyond l.row l.other l.all) i;
      many : l.many ≡ sum_below l.period (is_beyond l.row l.other l.all) l.at;
    }
