-- Blocks: all residues of one event that wait to be counted, and how many of them the windows hold.
use Rattle.std.specs.Prelude.{◌≡◌, ℕ, zero, suc, ◌+◌, ◌*◌, ◌%◌, ◌<◌, ◌≤◌, ◌==◌, nat_lt, Bool, true, false, ◌&&◌, ◌||◌, not, cond, List, Option, Some, None, length, slice_index_or}
use Rattle.std.specs.List.{list_any}
use Rattle.pesp_instance.specs.Network.{Network}
use Rattle.pesp_domains.specs.Domains.{holds}
use Rattle.pesp_domains.specs.Sweeps.{Pairs}
use Rattle.pesp_counts_arcs.specs.declared.end.End.{End}
use Rattle.pesp_counts_arcs.specs.Ends.{end_at, passes}
use Rattle.pesp_counts_arcs.specs.Links.{Links}
use Rattle.pesp_counts_supports.specs.Counts.{has_at, supporters}
use Rattle.pesp_counts_supports.specs.Restored.{of_start}
use Rattle.pesp_counts_supports.specs.Restoring.{is_spared}
use Rattle.pesp_counts_supports.specs.Supports.{Supports}

-- how many of the first n residues, going around the period, are in the set
abbrev pub sum_below : ℕ → (ℕ → Bool) → ℕ → ℕ
sum_below period D zero = 0
sum_below period D (suc n) = cond (D (n % period)) 1 0 + sum_below period D n

-- the sums of a set over three periods, so that each window is one range
pub record AreSums (period : ℕ) (D : ℕ → Bool) (sums : List ℕ) : Type 0 where
  pub long : 3 * period < length sums
  pub each : (i : ℕ) → i ≤ 3 * period → slice_index_or sums i 0 ≡ sum_below period D i

-- the residues that the one row holds, all or those that the other lacks
abbrev pub is_beyond : List Bool → List Bool → Bool → ℕ → Bool
is_beyond row other true r = holds row r
is_beyond row other false r = holds row r && not (holds other r)

-- the residues that the counts have seen at a place and that the rows do not hold
abbrev pub gone_at : Supports → ℕ → ℕ → Bool
gone_at s p r = has_at s.counted p r && not (has_at s.rows p r)

-- the residues that the rows hold at a place and that the counts have not seen
abbrev pub come_at : Supports → ℕ → ℕ → Bool
come_at s p r = has_at s.rows p r && not (has_at s.counted p r)

-- ---- what a block meets

-- a set with the residues of a block at a place
abbrev pub joined_block : Pairs → ℕ → (ℕ → Bool) → Pairs
joined_block S place D p r = S p r || (place == p && D r)

-- whether the window of a residue at an end holds some of the block with these sums
abbrev pub is_met : List ℕ → End → ℕ → Bool
is_met sums end r = nat_lt (slice_index_or sums (end.first + r) 0) (slice_index_or sums (end.first + r + end.width) 0)

-- whether it does, where an end is given
abbrev pub is_met_by : List ℕ → Option End → ℕ → Bool
is_met_by sums None r = true
is_met_by sums (Some end) r = is_met sums end r

-- those of these pairs that the block meets
abbrev pub of_met : List ℕ → Option End → Pairs → Pairs
of_met sums met may p r = may p r && is_met_by sums met r

-- the admitted ones of a place that go with some residue of a block, as the end there sees it
abbrev pub of_block : ℕ → Network → Links → (ℕ → Bool) → End → ℕ → Pairs
of_block period I links D end place p r = of_start I links place p r && nat_lt 0 (supporters period D (passes period end r))

-- those that one of these ends joins to a residue of a block, but for the spared ones
abbrev pub of_blocks : ℕ → Network → Links → Option ℕ → (ℕ → Bool) → List ℕ → Pairs
of_blocks period I links spared D ends p r =
    list_any (λ k. not (is_spared spared k) && of_block period I links D (end_at links.ends (end_at links.ends k).mate) (end_at links.ends k).looks_at p r) ends
