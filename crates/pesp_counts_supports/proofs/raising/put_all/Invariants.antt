-- The pairs so far are in the rows.
use Rattle.std.proofs.Common.{◌≡◌, ◌||◌, ℕ, All, take, length}
use Rattle.pesp_counts_supports.specs.Counts.{has_at}
use Rattle.pesp_counts_supports.specs.Supports.{is_in}
use Rattle.pesp_counts_supports.proofs.raising.put_all.Given as goal

abbrev pub invariant-loop-pair : goal.invariant-loop-pair
invariant-loop-pair l =
    record {
      many : length l.rows.items ≡ length l.fn.rows.items;
      long : (n : ℕ) → All (λ row. length row ≡ n) l.fn.rows.items → All (λ row. length row ≡ n) l.rows.items;
      has : (p r : ℕ) → has_at l.rows.items p r ≡ (has_at l.fn.rows.items p r || is_in (take l.pair-index l.pairs) p r);
    }
