-- What a pass puts back after an edit, by place.
use Rattle.std.specs.Prelude.{◌≡◌, ◌≢◌, ℕ, ◌+◌, ◌*◌, ◌<◌, Bool, false, ◌==◌, ◌&&◌, ◌||◌, nat_lt, IsTrue, List, Option, Some, None, AllPairs}
use Rattle.std.specs.List.{Contains}
use Rattle.std.specs.Option.{option_map_or}
use Rattle.pesp_instance.specs.Network.{Network, admits}
use Rattle.pesp_domains.specs.Sweeps.{Of, Pairs}
use Rattle.pesp_counts_supports.specs.declared.trail.Placed.{Placed}
use Rattle.pesp_counts_arcs.specs.Ends.{end_at, ends_of, passes}
use Rattle.pesp_counts_supports.specs.Counts.{IsExactAt, has_at}
use Rattle.pesp_counts_arcs.specs.Links.{Links}
use Rattle.pesp_counts_arcs.specs.Places.{number_at}
use Rattle.pesp_counts_supports.specs.Supports.{AreLevel, HaveSameShape, Supports, is_in}

-- whether the event at the place admits the residue by its window; where no event has the place, none is admitted
abbrev pub admits_at : Network → Links → Pairs
admits_at I links p r = option_map_or (λ e. nat_lt r I.period && admits I e r) (number_at links.events p) false

-- whether the end is one of those of the activity at a place, which a pass leaves out
abbrev pub is_spared : Option ℕ → ℕ → Bool
is_spared None k = false
is_spared (Some q) k = k == 2 * q || k == 2 * q + 1

-- the least set of admitted pairs outside the rows that has those of the starts, and with a pair each one that an end joins to it, but for the spared ends
pub data ReachedAt (period : ℕ) (links : Links) (starts : List ℕ) (spared : Option ℕ) (admitted rows : Pairs) : ℕ → ℕ → Type 0 where
  begins : (p r : ℕ) → Contains starts p → rows p r ≡ false → Of admitted p r → ReachedAt period links starts spared admitted rows p r
  follows : (p k r s : ℕ) → ReachedAt period links starts spared admitted rows (end_at links.ends k).looks_at s → Contains (ends_of links.lists p) k → is_spared spared k ≡ false → r < period → s < period → IsTrue (passes period (end_at links.ends k) r s) → rows p r ≡ false → Of admitted p r → ReachedAt period links starts spared admitted rows p r

-- just what is reached came to the rows, each pair once, and the counts at all ends but the spared ones are those of the rows
pub record IsRestored (I : Network) (links : Links) (starts : List ℕ) (spared : Option ℕ) (before after : Supports) (back : List Placed) : Type 0 where
  pub rows : (p r : ℕ) → has_at after.rows p r ≡ (has_at before.rows p r || is_in back p r)
  pub all : (p r : ℕ) → ReachedAt before.period links starts spared (admits_at I links) (has_at before.rows) p r → IsTrue (is_in back p r)
  pub only : (p r : ℕ) → IsTrue (is_in back p r) → ReachedAt before.period links starts spared (admits_at I links) (has_at before.rows) p r
  pub once : AllPairs (λ x y. x ≢ y) back
  pub exact : (p k : ℕ) → Contains (ends_of links.lists p) k → is_spared spared k ≡ false → IsExactAt after.period links.ends after.counts (has_at after.counted) k
  pub level : AreLevel after
  pub trail : after.trail ≡ before.trail
  pub shape : HaveSameShape before after
