-- The pairs that an edit puts back, as a keeper tells them.
use Rattle.std.specs.Prelude.{◌≢◌, ℕ, ◌↔◌, ◌⊎◌, ◌≡◌, ◌≤◌, IsTrue, not, List, [], Some, AllPairs, unwrap_or}
use Rattle.pesp_base.specs.Limits.{greatest_number}
use Rattle.pesp_instance.specs.declared.edit.Edit.{Edit}
use Rattle.pesp_instance.specs.Edited.{effect}
use Rattle.pesp_instance.specs.Network.{Network, has_event}
use Rattle.pesp_domains.specs.declared.pair.Pair.{Pair}
use Rattle.pesp_domains.specs.Domains.{In, InDomains}
use Rattle.pesp_counts_supports.specs.declared.trail.Placed.{Placed}
use Rattle.pesp_counts.specs.declared.work.Work.{Work}
use Rattle.pesp_counts_arcs.specs.Links.{Links}
use Rattle.pesp_counts_arcs.specs.Places.{number_at}
use Rattle.pesp_counts.specs.Reached.{Reached}

-- an instance, the pushed pairs, the last one at the end, how many were pushed so far, the pairs that the last accepted edit put back, and its work
pub record Seen : Type 0 where
  pub network : Network
  pub pushes : List Pair
  pub push_count : ℕ
  pub restored : List Pair
  pub work : Work

-- the list has each of the pairs, once
pub record AreThePairs (P : ℕ → ℕ → Type 0) (pairs : List Pair) : Type 0 where
  pub exact : (e r : ℕ) → In pairs e r ↔ P e r
  pub once : AllPairs (λ p q. p ≢ q) pairs

-- the restored pairs are just those that the edit reaches
abbrev pub Restores : Network → Edit → List Pair → Type 0
Restores I edit restored = AreThePairs (Reached I edit) restored

-- what is in the domains of the edited instance was in those before, or is restored, or is of an added event
abbrev pub StaysWithin : Network → Edit → List Pair → Type 0
StaysWithin I edit restored = (e r : ℕ) → InDomains (effect I edit) [] e r → InDomains I [] e r ⊎ In restored e r ⊎ IsTrue (not (has_event I e))

-- the pair of an event's place, by the event's number
abbrev pub numbered_pair : Links → Placed → Pair
numbered_pair links x = record { event = unwrap_or (number_at links.events x.place) 0; residue = x.residue }

-- an event has the place, with a number within the limit
abbrev pub IsEventPlace : Links → ℕ → Type 0
IsEventPlace links p = (e : ℕ) × (number_at links.events p ≡ Some e) × (e ≤ greatest_number)
