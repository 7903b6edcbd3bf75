-- What the search by cycles comes to.
use Rattle.std.specs.Prelude.{◌≡◌, ℕ, ◌-◌, ◌^◌, ◌<◌, Bool, true, false, All, length, Option, Some, None, IfSome}
use Rattle.pesp_instance.specs.Network.{Network, event_ids}
use Rattle.pesp_search_least.specs.declared.outcome.Candidate.{Candidate}
use Rattle.pesp_search_least.specs.Order.{IsFirst}
use Rattle.pesp_search_least.specs.Sums.{IsCandidate, IsLowerBound, Sums}
use Rattle.pesp_search.specs.declared.answer.Best.{Best}
use Rattle.pesp_search.specs.Paths.{timetable_of}
use Rattle.pesp_search.specs.Tried.{IsEnd, IsFound, IsWithin}

-- costs below the cap are within the bound, and all costs within it that a timetable can have are below the cap
pub record IsCap (bound : Option ℕ) (cap : ℕ) : Type 0 where
  pub within : (cost : ℕ) → cost < cap → IsWithin bound cost
  pub below : (cost : ℕ) → cost < 2 ^ 64 - 1 → IsWithin bound cost → cost < cap

-- at its end the first map of least sum, or none where no sum is below the cap; before the end a map below the cap, or none
abbrev pub IsSoughtMap : Sums → ℕ → Bool → Option Candidate → Type 0
IsSoughtMap sums cap true None = IsLowerBound sums cap
IsSoughtMap sums cap true (Some candidate) = IsFirst sums candidate
IsSoughtMap sums cap false found = IfSome found (λ candidate. IsCandidate sums candidate × (candidate.cost < cap))

-- the map has a residue below the period for each event
pub record IsMapOf (I : Network) (candidate : Candidate) : Type 0 where
  pub long : length candidate.map.items ≡ length (event_ids I)
  pub below : All (λ t. t < I.period) candidate.map.items

-- the timetable of a map, with its cost
abbrev pub best_of_map : Network → Candidate → Best
best_of_map I candidate = record { cost = candidate.cost; times = timetable_of I candidate.map.items }

-- at its end the optimum, or that there is none; before the end a member within the bound, or none
abbrev pub IsSought : Network → Option ℕ → Bool → Option Best → Type 0
IsSought I bound true found = IsEnd I found
IsSought I bound false found = IfSome found (IsFound I bound)
