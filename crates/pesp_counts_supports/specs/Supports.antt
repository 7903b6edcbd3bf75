-- Counts, rows and the trail, and what the passes over them do.
use Rattle.std.specs.Prelude.{◌≡◌, ◌≢◌, ℕ, zero, suc, ◌+◌, ◌*◌, ◌%◌, cond, ◌<◌, ◌≤◌, Bool, false, ◌==◌, ◌&&◌, ◌||◌, not, IsTrue, List, [], ◌++◌, length, slice_index_or, AllPairs, All, sum_by}
use Rattle.std.specs.List.{list_any}
use Rattle.std.specs.List.{Contains}
use Rattle.pesp_domains.specs.Sweeps.{Pairs}
use Rattle.pesp_counts_arcs.specs.declared.end.End.{End}
use Rattle.pesp_counts_supports.specs.declared.trail.Placed.{Placed}
use Rattle.pesp_counts_arcs.specs.Ends.{AreLinked, end_at, ends_of}
use Rattle.pesp_counts_supports.specs.Counts.{IsExactAt, count_at, has_at, held_in}
use Rattle.pesp_counts_arcs.specs.Links.{Links}

-- the counts by end and then residue, the rows by place as the counts have seen them and as they are, the pairs that were taken out, for how many of these there is room, the sums of the block that moves, and how many probes were made
pub record Supports : Type 0 where
  pub period : ℕ
  pub counts : List ℕ
  pub counted : List (List Bool)
  pub rows : List (List Bool)
  pub trail : List Placed
  pub room : ℕ
  pub sums : List ℕ
  pub probes : ℕ

-- no row and no count
abbrev pub no_supports : ℕ → Supports
no_supports period = record { period = period; counts = []; counted = []; rows = []; trail = []; room = 0; sums = []; probes = 0 }

-- how many places there are at most
abbrev pub most_places : ℕ
most_places = 4294967295

-- how many pairs the rows hold
abbrev pub held : List (List Bool) → ℕ
held rows = sum_by held_in rows

-- there are as many rows of either kind, and no more than numbers of 32 bits, each row has a test for each residue, the trail has room for each pair that the rows hold, and for all that they may hold, where there is a row there are sums for three periods, and a count can be as great as the period
pub record AreSupports (s : Supports) (most : ℕ) : Type 0 where
  pub period : 2 * s.period < 65536
  pub rows : All (λ row. length row ≡ s.period) s.rows
  pub counted : All (λ row. length row ≡ s.period) s.counted
  pub even : length s.counted ≡ length s.rows
  pub few : length s.rows ≤ most_places
  pub room : length s.trail + held s.rows ≤ s.room
  pub all_room : length s.rows * s.period ≤ s.room
  pub sums : 0 < length s.rows → 3 * s.period < length s.sums
  pub fits : s.period ≤ most

-- the ends are linked, there are rows where ends are listed, and counts for each listed end
pub record Fit (links : Links) (s : Supports) : Type 0 where
  pub linked : AreLinked s.period links.ends links.lists
  pub rows : (p k : ℕ) → Contains (ends_of links.lists p) k → p < length s.rows
  pub counted : (p k : ℕ) → Contains (ends_of links.lists p) k → p < length s.counted
  pub counts : (p k : ℕ) → Contains (ends_of links.lists p) k → k * s.period + s.period ≤ length s.counts

-- the pair is in the list
abbrev pub is_in : List Placed → Pairs
is_in trail p r = list_any (λ x. x.place == p && x.residue == r) trail

-- the set without the pairs of a list
abbrev pub without_those : Pairs → List Placed → Pairs
without_those S pairs p r = S p r && not (is_in pairs p r)

-- whether the pair has a count of 0 at an end at its place
abbrev pub lacks_partner : Links → Supports → Pairs
lacks_partner links s p r = list_any (λ k. count_at s.period s.counts k r == 0) (ends_of links.lists p)

-- pairs go from the rows to the end of the trail, each once
pub record IsTaken (before after : Supports) : Type 0 where
  pub more : List Placed
  pub trail : after.trail ≡ before.trail ++ more
  pub parted : (p r : ℕ) → has_at before.rows p r ≡ (has_at after.rows p r || is_in more p r)
  pub out : (p r : ℕ) → IsTrue (is_in more p r) → has_at after.rows p r ≡ false
  pub once : AllPairs (λ x y. x ≢ y) more

-- rows and trail may change, with as many rows as before, and nothing else does
pub record Keeps (before after : Supports) : Type 0 where
  pub period : after.period ≡ before.period
  pub counts : after.counts ≡ before.counts
  pub counted : after.counted ≡ before.counted
  pub many : length after.rows ≡ length before.rows
  pub room : after.room ≡ before.room
  pub sums : after.sums ≡ before.sums

-- pairs go to the trail so, and nothing else changes
pub record OnlyTakes (before after : Supports) : Type 0 where
  pub taken : IsTaken before after
  pub keeps : Keeps before after
  pub probes : after.probes ≡ before.probes

-- as many counts and rows as before, and as much room
pub record HaveSameShape (before after : Supports) : Type 0 where
  pub period : after.period ≡ before.period
  pub counts : length after.counts ≡ length before.counts
  pub counted : length after.counted ≡ length before.counted
  pub rows : length after.rows ≡ length before.rows
  pub room : after.room ≡ before.room

-- the counts at each listed end are those of this set
abbrev pub AreExact : Links → Supports → Pairs → Type 0
AreExact links s S = (p k : ℕ) → Contains (ends_of links.lists p) k → IsExactAt s.period links.ends s.counts S k

-- the rows as the counts have seen them are the rows
abbrev pub AreLevel : Supports → Type 0
AreLevel s = (p r : ℕ) → has_at s.counted p r ≡ has_at s.rows p r

-- no pair of the list is in the rows, each is of a row and below the period, and none stands twice
pub record AreOut (s : Supports) (pairs : List Placed) : Type 0 where
  pub out : (p r : ℕ) → IsTrue (is_in pairs p r) → has_at s.rows p r ≡ false
  pub within : All (λ x. x.place < length s.rows) pairs
  pub below : All (λ x. x.residue < s.period) pairs
  pub once : AllPairs (λ x y. x ≢ y) pairs

-- there may be more rows, counts and room, and nothing is seen of it
pub record IsRoomier (before after : Supports) : Type 0 where
  pub period : after.period ≡ before.period
  pub counts : (i : ℕ) → slice_index_or after.counts i 0 ≡ slice_index_or before.counts i 0
  pub more_counts : length before.counts ≤ length after.counts
  pub counted : (p r : ℕ) → has_at after.counted p r ≡ has_at before.counted p r
  pub more_counted : length before.counted ≤ length after.counted
  pub rows : (p r : ℕ) → has_at after.rows p r ≡ has_at before.rows p r
  pub more_rows : length before.rows ≤ length after.rows
  pub trail : after.trail ≡ before.trail
  pub probes : after.probes ≡ before.probes

-- the set with a pair
abbrev pub joined : Pairs → ℕ → ℕ → Pairs
joined S place residue p r = S p r || (place == p && residue == r)

-- how many of so many residues from one on, around the period, are in the set
abbrev pub around : ℕ → (ℕ → Bool) → ℕ → ℕ → ℕ
around period S first zero = 0
around period S first (suc width) = cond (S ((first + width) % period)) 1 0 + around period S first width

-- each count of the end is its width, as it is over full rows
abbrev pub IsWide : ℕ → List End → List ℕ → ℕ → Type 0
IsWide period ends counts k = (r : ℕ) → r < period → count_at period counts k r ≡ (end_at ends k).width

-- empty rows may have come at the end, and nothing else changes
pub record ArePadded (period : ℕ) (before after : List (List Bool)) : Type 0 where
  pub long : All (λ row. length row ≡ period) after
  pub has : (p r : ℕ) → has_at after p r ≡ has_at before p r
  pub held : held after ≡ held before
  pub more : length before ≤ length after
