-- Support counts by place: events and ends of activities are places here, and a pair is a place and a residue.
use Rattle.std.specs.Prelude.{◌≡◌, ℕ, zero, suc, ◌+◌, ◌*◌, ◌<◌, ◌≤◌, Bool, true, false, ◌&&◌, cond, IsTrue, List, [], length, slice_index_or}
use Rattle.std.specs.List.{Contains}
use Rattle.pesp_domains.specs.Domains.{holds}
use Rattle.pesp_domains.specs.Sweeps.{Of, Pairs}
use Rattle.pesp_counts_arcs.specs.declared.end.End.{End}
use Rattle.pesp_counts_arcs.specs.Ends.{end_at, ends_of, passes}
use Rattle.pesp_counts_supports.specs.declared.trail.Placed.{Placed}

-- ---- rows by place

abbrev pub has_at : List (List Bool) → Pairs
has_at rows p r = holds (slice_index_or rows p []) r

-- ---- counts

-- how many residues below n are in the set and pass
abbrev pub supporters : ℕ → (ℕ → Bool) → (ℕ → Bool) → ℕ
supporters zero S f = 0
supporters (suc n) S f = cond (S n && f n) 1 0 + supporters n S f

-- how many residues a row has
abbrev pub held_in : List Bool → ℕ
held_in row = supporters (length row) (holds row) (λ r. true)

-- the count of a residue at an end: those of one end stand side by side
abbrev pub count_at : ℕ → List ℕ → ℕ → ℕ → ℕ
count_at period counts k r = slice_index_or counts (k * period + r) 0

-- each count at the end is the number of its partners in the set
abbrev pub IsExactAt : ℕ → List End → List ℕ → Pairs → ℕ → Type 0
IsExactAt period ends counts S k =
    (r : ℕ) → r < period → count_at period counts k r ≡ supporters period (S (end_at ends k).looks_at) (passes period (end_at ends k) r)

-- each pair of the set at the place has a count above 0 at the end
abbrev pub IsLiveAt : ℕ → List ℕ → Pairs → ℕ → ℕ → Type 0
IsLiveAt period counts S p k = (r : ℕ) → r < period → Of S p r → 0 < count_at period counts k r

-- the counts are those of a set that has the rows' pairs and those of the trail from `next` on, and each pair of the rows has all its counts above 0
pub record ArePending (period : ℕ) (ends : List End) (lists : List (List ℕ)) (counts : List ℕ) (counted rows : Pairs) (trail : List Placed) (next : ℕ) : Type 0 where
  pub exact : (p k : ℕ) → Contains (ends_of lists p) k → IsExactAt period ends counts counted k
  pub live : (p k : ℕ) → Contains (ends_of lists p) k → IsLiveAt period counts rows p k
  pub within : (p r : ℕ) → Of rows p r → Of counted p r
  pub waiting : (p r : ℕ) → Of counted p r → rows p r ≡ false → (i : ℕ) × (next ≤ i) × (i < length trail) × (slice_index_or trail i (record { place = p; residue = r }) ≡ record { place = p; residue = r })

-- ---- what may be taken out

-- each pair of the set has a partner in the set along each end at its place
pub record IsClosed (period : ℕ) (ends : List End) (lists : List (List ℕ)) (S : Pairs) : Type 0 where
  pub each : (p r k : ℕ) → Of S p r → Contains (ends_of lists p) k → (s : ℕ) × (s < period) × Of S (end_at ends k).looks_at s × IsTrue (passes period (end_at ends k) r s)

-- pairs go, and none of a closed set within
pub record KeepsClosed (period : ℕ) (ends : List End) (lists : List (List ℕ)) (before after : Pairs) : Type 0 where
  pub fewer : (p r : ℕ) → Of after p r → Of before p r
  pub keeps : (S : Pairs) → IsClosed period ends lists S → ((p r : ℕ) → Of S p r → Of before p r) → (p r : ℕ) → Of S p r → Of after p r
