-- Rows at rest, with nothing waiting to be counted out, and rows of which some pairs wait.
use Rattle.std.specs.Prelude.{◌≡◌, ℕ, ◌*◌, ◌<◌, ◌≤◌, ◌⊎◌, Bool, false, IsTrue, List, length}
use Rattle.std.specs.List.{Contains}
use Rattle.pesp_domains.specs.Sweeps.{Of, narrowed_to}
use Rattle.pesp_counts_supports.specs.declared.trail.Placed.{Placed}
use Rattle.pesp_counts_supports.specs.declared.moving.Moved.{Moved}
use Rattle.pesp_counts_arcs.specs.Ends.{end_at, ends_of}
use Rattle.pesp_counts_arcs.specs.Links.{Links}
use Rattle.pesp_counts_supports.specs.Counts.{ArePending, IsLiveAt, KeepsClosed, count_at, has_at}
use Rattle.pesp_counts_supports.specs.Moves.{is_touched}
use Rattle.pesp_counts_supports.specs.Supports.{AreExact, AreLevel, AreOut, HaveSameShape, IsTaken, Supports, is_in, without_those}

-- the pairs of the trail from one on wait to be counted out
abbrev pub AreWaiting : ℕ → Links → Supports → ℕ → Type 0
AreWaiting period links s next = ArePending period links.ends links.lists s.counts (has_at s.counted) (has_at s.rows) s.trail next

-- pairs of the rows go, and none of a closed set within them
abbrev pub KeepsAllClosed : Links → Supports → Supports → Type 0
KeepsAllClosed links before after = KeepsClosed before.period links.ends links.lists (has_at before.rows) (has_at after.rows)

-- each pair of the rows has a count above 0 at each end at its place
abbrev pub AreLive : Links → Supports → Type 0
AreLive links s = (p k : ℕ) → Contains (ends_of links.lists p) k → IsLiveAt s.period s.counts (has_at s.rows) p k

-- each pair of the rows has a count above 0 at each end at its place, but perhaps at the mates of some ends, where it goes with what left
abbrev pub AreLiveBut : Links → Supports → Moved → List ℕ → Type 0
AreLiveBut links s left ends =
    (p k r : ℕ) → Contains (ends_of links.lists p) k → r < s.period → Of (has_at s.rows) p r → (0 < count_at s.period s.counts k r) ⊎ ((m : ℕ) × Contains ends m × ((end_at links.ends m).mate ≡ k) × IsTrue (is_touched s.period left (end_at links.ends m) r))

-- nothing waits to be counted out, and what was taken out stands in the trail
pub record AreAtRest (links : Links) (s : Supports) : Type 0 where
  pub exact : AreExact links s (has_at s.counted)
  pub level : AreLevel s
  pub live : AreLive links s
  pub below : (p r : ℕ) → Of (has_at s.rows) p r → r < s.period
  pub out : AreOut s s.trail

-- there is room for each pair that the rows may hold, in either list of those that were put back
pub record HaveRoom (s : Supports) (for_back for_restored : ℕ) : Type 0 where
  pub back : length s.rows * s.period ≤ for_back
  pub restored : length s.rows * s.period ≤ for_restored

-- the pairs of a place that do not pass a test go, and of the others those that are left without a partner
pub record IsNarrowed (links : Links) (p : ℕ) (test : ℕ → Bool) (before after : Supports) : Type 0 where
  pub rest : AreAtRest links after
  pub taken : IsTaken before after
  pub shape : HaveSameShape before after
  pub keeps : KeepsClosed before.period links.ends links.lists (narrowed_to (has_at before.rows) p test) (has_at after.rows)

-- pairs of the rows but those of a list have counts above 0, and what was taken out of the rows waits in the trail
pub record ArePendingBut (links : Links) (s : Supports) (back : List Placed) : Type 0 where
  pub exact : AreExact links s (has_at s.counted)
  pub live : (p k : ℕ) → Contains (ends_of links.lists p) k → IsLiveAt s.period s.counts (without_those (has_at s.rows) back) p k
  pub within : (p r : ℕ) → Of (has_at s.rows) p r → Of (has_at s.counted) p r
  pub waiting : (p r : ℕ) → Of (has_at s.counted) p r → has_at s.rows p r ≡ false → IsTrue (is_in s.trail p r)
  pub below : (p r : ℕ) → Of (has_at s.rows) p r → r < s.period
  pub out : AreOut s s.trail
