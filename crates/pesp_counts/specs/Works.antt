-- The work of an edit.
use Rattle.std.specs.Prelude.{◌≡◌, ◌⊎◌, ℕ, ◌+◌, ◌*◌, ◌≤◌, ◌==◌, false, IsTrue, List, [], Some, length, max, sum_by, count_by}
use Rattle.pesp_instance.specs.declared.edit.Edit.{Edit}
use Rattle.pesp_instance.specs.Edited.{effect}
use Rattle.pesp_instance.specs.Network.{Network, has_event}
use Rattle.pesp_domains.specs.declared.pair.Pair.{Pair}
use Rattle.pesp_domains.specs.Domains.{In, InDomains}
use Rattle.pesp_domains.specs.Sweeps.{Of}
use Rattle.pesp_counts_supports.specs.declared.trail.Placed.{Placed}
use Rattle.pesp_counts.specs.declared.work.Work.{Work}
use Rattle.pesp_counts_supports.specs.Counts.{has_at}
use Rattle.pesp_counts_arcs.specs.Links.{Links}
use Rattle.pesp_counts_arcs.specs.Places.{place_of}
use Rattle.pesp_counts.specs.Restores.{AreThePairs}
use Rattle.pesp_counts_supports.specs.Spent.{ends_at}
use Rattle.pesp_counts_supports.specs.Supports.{Supports, is_in}

-- the pair was in the domains or is restored, its event stays, and it is not in the domains of the edited instance
pub record IsRemoved (I : Network) (edit : Edit) (restored : List Pair) (e r : ℕ) : Type 0 where
  pub before : InDomains I [] e r ⊎ In restored e r
  pub stays : IsTrue (has_event (effect I edit) e)
  pub out : InDomains (effect I edit) [] e r → ⊥

-- how many ends of activities are at the event; an activity from the event to itself has two there
abbrev pub degree : Network → ℕ → ℕ
degree I e = count_by (λ a. a.from == e) I.activities + count_by (λ a. a.to == e) I.activities

-- one and the degree of the event for each of these pairs, the larger one of those before and after the edit
abbrev pub weight_of : Network → Network → List Pair → ℕ
weight_of I J pairs = sum_by (λ p. max (degree I p.event) (degree J p.event) + 1) pairs

-- the most probes for an edit from I to J that restores and removes these pairs
abbrev pub probe_bound : Network → Network → List Pair → List Pair → ℕ
probe_bound I J restored removed = 4 * I.period * I.period + 2 * I.period * (weight_of I J restored + weight_of I J removed)

-- the work of an accepted edit that restored these pairs
pub record IsWork (I : Network) (edit : Edit) (restored : List Pair) (work : Work) : Type 0 where
  pub removed : List Pair
  pub are : AreThePairs (IsRemoved I edit restored) removed
  pub restores : work.restored ≡ length restored
  pub removes : work.removed ≡ length removed
  pub probes : work.probes ≤ probe_bound I (effect I edit) restored removed

-- ---- by place

-- the pairs that went stand in the trail, by places of events, and the probes are those of the edited activity, of the pairs of the list, which came, and of the trail
pub record IsWorked (links : Links) (before after : Supports) (back : List Placed) : Type 0 where
  pub gone : (p r : ℕ) → Of (has_at before.rows) p r ⊎ IsTrue (is_in back p r) → has_at after.rows p r ≡ false → IsTrue (is_in after.trail p r)
  pub only : (p r : ℕ) → IsTrue (is_in after.trail p r) → Of (has_at before.rows) p r ⊎ IsTrue (is_in back p r)
  pub placed : (p r : ℕ) → IsTrue (is_in after.trail p r) → (e : ℕ) × (place_of links.events e ≡ Some p)
  pub probes : after.probes ≤ before.probes + 8 * before.period + 2 * before.period * ends_at links back + before.period * length back + before.period * ends_at links after.trail

-- the events that stay have the places that they had, and so have those of the pairs of a list
pub record KeepPlaces (J : Network) (before after : Links) (pairs : List Placed) : Type 0 where
  pub places : (e p : ℕ) → place_of before.events e ≡ Some p → IsTrue (has_event J e) → place_of after.events e ≡ Some p
  pub placed : (p r : ℕ) → IsTrue (is_in pairs p r) → (e : ℕ) × (place_of before.events e ≡ Some p) × (place_of after.events e ≡ Some p)
