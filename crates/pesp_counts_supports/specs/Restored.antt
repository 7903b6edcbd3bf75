-- The steps of a pass that puts pairs back.
use Rattle.std.specs.Prelude.{◌≡◌, ◌≢◌, ℕ, ◌+◌, ◌-◌, ◌*◌, ◌<◌, ◌≤◌, Bool, false, ◌==◌, ◌&&◌, ◌||◌, not, List, ◌++◌, Option, Some, length, vec_capacity, AllPairs}
use Rattle.std.specs.List.{Contains, list_any}
use Rattle.pesp_instance.specs.Network.{Network}
use Rattle.pesp_domains.specs.Sweeps.{Pairs}
use Rattle.pesp_counts_arcs.specs.declared.end.End.{End}
use Rattle.pesp_counts_arcs.specs.declared.end.Ranges.{Ranges}
use Rattle.pesp_counts_supports.specs.declared.trail.Placed.{Placed}
use Rattle.pesp_counts_arcs.specs.Ends.{end_at, ends_of, is_from_to}
use Rattle.pesp_counts_supports.specs.Counts.{IsExactAt, has_at}
use Rattle.pesp_counts_arcs.specs.Links.{Links}
use Rattle.std.specs.Global.{Vec}
use Rattle.pesp_counts_supports.specs.Restoring.{admits_at, is_spared}
use Rattle.pesp_counts_supports.specs.Supports.{Supports, held, is_in}

-- ---- which pairs a step may bring

-- whether the residue is in one of the two ranges of a window
abbrev pub in_ranges : Ranges → ℕ → Bool
in_ranges w r = is_from_to w.start w.end r || is_from_to 0 w.wrapped r

-- they lie below the period, and apart
pub record AreRanges (period : ℕ) (w : Ranges) : Type 0 where
  pub order : w.start ≤ w.end
  pub below : w.end ≤ period
  pub wrapped : w.wrapped ≤ w.start

-- how many residues they have
abbrev pub size_of : Ranges → ℕ
size_of w = w.end - w.start + w.wrapped

-- one pair
abbrev pub of_pair : ℕ → ℕ → Pairs
of_pair place residue p r = p == place && r == residue

-- those of a place in a range
abbrev pub of_range : ℕ → ℕ → ℕ → Pairs
of_range place low high p r = p == place && is_from_to low high r

-- those of a place in two ranges
abbrev pub of_ranges : ℕ → Ranges → Pairs
of_ranges place w p r = p == place && in_ranges w r

-- the admitted ones of a place
abbrev pub of_start : Network → Links → ℕ → Pairs
of_start I links place p r = p == place && admits_at I links place r

-- the admitted ones of these places
abbrev pub of_starts : Network → Links → List ℕ → Pairs
of_starts I links starts p r = list_any (λ q. p == q && admits_at I links q r) starts

-- ---- spared ends

-- the counts at each listed end but the spared ones are those of this set
abbrev pub AreExactBut : Links → Option ℕ → Supports → Pairs → Type 0
AreExactBut links spared s S = (p k : ℕ) → Contains (ends_of links.lists p) k → is_spared spared k ≡ false → IsExactAt s.period links.ends s.counts S k

-- an end is spared where its mate is
abbrev pub AreSparedTogether : Links → Option ℕ → Type 0
AreSparedTogether links spared = (p k : ℕ) → Contains (ends_of links.lists p) k → is_spared spared (end_at links.ends k).mate ≡ is_spared spared k

-- ---- a step

-- the list has room for each pair that the rows do not hold
abbrev pub HasRoom : Supports → Vec Placed → Type 0
HasRoom s back = length back.items + length s.rows * s.period ≤ vec_capacity back + held s.rows

-- an end that is given begins below the period and is no wider
abbrev pub IsMeeting : ℕ → Option End → Type 0
IsMeeting period met = (end : End) → met ≡ Some end → (end.first < period) × (end.width ≤ period)

-- no more was looked at than this, beside each pair that came
abbrev pub LooksAt : ℕ → Supports → Supports → Vec Placed → Vec Placed → Type 0
LooksAt most before after back now = after.probes + length back.items ≤ before.probes + length now.items + most

-- those of these pairs that the rows did not hold came to the rows and to the end of the list, each once, and nothing else but probes changed
pub record IsBrought (may : Pairs) (before after : Supports) (back now : Vec Placed) : Type 0 where
  pub more : List Placed
  pub listed : now.items ≡ back.items ++ more
  pub rows : (p r : ℕ) → has_at after.rows p r ≡ (has_at before.rows p r || may p r)
  pub just : (p r : ℕ) → is_in more p r ≡ (may p r && not (has_at before.rows p r))
  pub once : AllPairs (λ x y. x ≢ y) more
  pub period : after.period ≡ before.period
  pub counts : after.counts ≡ before.counts
  pub counted : after.counted ≡ before.counted
  pub many : length after.rows ≡ length before.rows
  pub trail : after.trail ≡ before.trail
  pub for_all : after.room ≡ before.room
  pub sums : after.sums ≡ before.sums
  pub room : vec_capacity now ≡ vec_capacity back
  pub held : length now.items + held before.rows ≡ length back.items + held after.rows
