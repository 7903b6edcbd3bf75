-- The rows of the places so far are full, and the counts of the ends there their widths.
use Rattle.std.proofs.Common.{◌≡◌, ℕ, ◌<◌, ◌&&◌, ◌||◌, nat_lt, []}
use Rattle.std.specs.List.{Contains}
use Rattle.pesp_counts_arcs.specs.Ends.{ends_of}
use Rattle.pesp_counts_supports.specs.Counts.{has_at}
use Rattle.pesp_counts_supports.specs.Supports.{HaveSameShape, IsWide}
use Rattle.pesp_counts_supports.proofs.supports.Supports.refill.Given as goal

abbrev pub invariant-loop-place : goal.invariant-loop-place
invariant-loop-place l =
    record {
      rows : (p r : ℕ) → has_at l.self.rows p r ≡ (has_at l.fn.self.rows p r || (nat_lt p l.place && nat_lt r l.fn.self.period));
      counted : (p r : ℕ) → has_at l.self.counted p r ≡ (has_at l.fn.self.counted p r || (nat_lt p l.place && nat_lt r l.fn.self.period));
      wide : (p k : ℕ) → p < l.place → Contains (ends_of l.fn.links.lists p) k → IsWide l.fn.self.period l.fn.links.ends l.self.counts k;
      trail : l.self.trail ≡ [];
      shape : HaveSameShape l.fn.self l.self;
    }
