-- Pairs of the trail come back: what is counted in already, and what comes next.
use Rattle.std.specs.Prelude.{◌≡◌, ℕ, false, ◌&&◌, ◌||◌, not, IsTrue, List, drop}
use Rattle.pesp_domains.specs.Sweeps.{Of, Pairs}
use Rattle.pesp_counts_supports.specs.declared.trail.Placed.{Placed}
use Rattle.pesp_counts_arcs.specs.Links.{Links}
use Rattle.pesp_counts_supports.specs.Counts.{has_at}
use Rattle.pesp_counts_supports.specs.Supports.{AreExact, AreOut, Supports, is_in}

-- the pairs of the rows, and those of a list that wait no more
abbrev pub arrived : Supports → List Placed → Pairs
arrived s pairs p r = has_at s.rows p r || (is_in pairs p r && not (has_at s.counted p r))

-- the pairs of the trail from a mark on are still out of the rows, those of them that wait are in what is counted, and the counts are those of all others and of the rows
pub record AreReturning (links : Links) (s : Supports) (mark : ℕ) : Type 0 where
  pub exact : AreExact links s (arrived s (drop mark s.trail))
  pub within : (p r : ℕ) → Of (has_at s.rows) p r → Of (has_at s.counted) p r
  pub waiting : (p r : ℕ) → Of (has_at s.counted) p r → has_at s.rows p r ≡ false → IsTrue (is_in (drop mark s.trail) p r)
  pub out : AreOut s (drop mark s.trail)
