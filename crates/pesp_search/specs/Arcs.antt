-- The network of arcs between events by index that an instance and its domains make.
use Rattle.std.specs.Prelude.{◌≡◌, ℕ, ◌+◌, ◌*◌, ◌<◌, ◌↔◌, ⊤, Bool, false, IsTrue, List, [], ◌∷◌, length, slice_index, slice_index_or}
use Rattle.pesp_base.specs.declared.activity.Activity.{Activity}
use Rattle.pesp_domains.specs.declared.pair.Pair.{Pair}
use Rattle.pesp_domains.specs.Domains.{InDomains}
use Rattle.pesp_instance.specs.Network.{Network, event_ids}
use Rattle.pesp_search_network.specs.Arcs.{Arcs, has}
use Rattle.pesp_search_graph.specs.declared.arc.Arc.{Arc}

-- the arc leads between the indices of the activity's ends, with its span and weight
pub record IsArcOf (ids : List ℕ) (a : Activity) (arc : Arc) : Type 0 where
  pub from : arc.from < length ids
  pub to : arc.to < length ids
  pub tail : slice_index ids arc.from ≡ a.from
  pub head : slice_index ids arc.to ≡ a.to
  pub span : arc.span ≡ a.span
  pub weight : arc.weight ≡ a.weight

-- the arcs are those of the activities, in their order
abbrev pub AreArcsOf : List ℕ → List Activity → List Arc → Type 0
AreArcsOf ids [] [] = ⊤
AreArcsOf ids [] (arc ∷ arcs) = ⊥
AreArcsOf ids (a ∷ activities) [] = ⊥
AreArcsOf ids (a ∷ activities) (arc ∷ arcs) = IsArcOf ids a arc × AreArcsOf ids activities arcs

-- the rows, a test for each residue of one event after another, are the domains
abbrev pub AreDomains : Network → List Pair → List Bool → Type 0
AreDomains I pushes rows =
    (index r : ℕ) → index < length (event_ids I) → r < I.period → IsTrue (slice_index_or rows (index * I.period + r) false) ↔ InDomains I pushes (slice_index (event_ids I) index) r

-- the network has the period, the events by their indices, an arc for each activity, and for each event its domain
pub record IsNetworkOf (I : Network) (N : Arcs) : Type 0 where
  pub period : N.period ≡ I.period
  pub events : N.events ≡ length (event_ids I)
  pub arcs : AreArcsOf (event_ids I) I.activities N.arcs
  pub rows : (index r : ℕ) → index < length (event_ids I) → r < I.period → IsTrue (has N index r) ↔ InDomains I [] (slice_index (event_ids I) index) r
