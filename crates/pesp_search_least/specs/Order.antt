-- The first map of least sum.
use Rattle.std.specs.Prelude.{◌≡◌, ℕ, ◌<◌, ◌≤◌, ◌⊎◌, ⊤, List, [], ◌∷◌, Option, Some, slice_index, take}
use Rattle.pesp_search_least.specs.declared.outcome.Candidate.{Candidate}
use Rattle.pesp_search_least.specs.declared.outcome.First.{First}
use Rattle.pesp_search_least.specs.declared.outcome.First.TheVariants.{Done, Spent}
use Rattle.pesp_search_least.specs.Sums.{IsLeast, IsWithin, Sums}

-- of two maps of the same events the one with the smaller residue at the first event at which they differ
abbrev pub Precedes : List ℕ → List ℕ → Type 0
Precedes [] ys = ⊥
Precedes (x ∷ xs) [] = ⊥
Precedes (x ∷ xs) (y ∷ ys) = (x < y) ⊎ ((x ≡ y) × Precedes xs ys)

-- the sums of the maps that give the event a residue below this one
abbrev pub BelowResidue : Sums → ℕ → ℕ → Sums
BelowResidue sums event residue map sum = sums map sum × (slice_index map event < residue)

-- those maps keep their sums that give the event this residue, and no others
pub record IsHeld (event residue : ℕ) (old new : Sums) : Type 0 where
  pub keeps : (map : List ℕ) (sum : ℕ) → old map sum → slice_index map event ≡ residue → new map sum
  pub within : IsWithin new old
  pub held : (map : List ℕ) (sum : ℕ) → new map sum → slice_index map event ≡ residue

-- no map has a lesser sum, and each map that precedes it has a greater one
pub record IsFirst (sums : Sums) (candidate : Candidate) : Type 0 where
  pub least : IsLeast sums candidate
  pub first : (map : List ℕ) (sum : ℕ) → sums map sum → Precedes map candidate.map.items → candidate.cost < sum

-- no map has a lesser sum, and each one with a lesser residue at the event has a greater one
pub record IsFirstAt (sums : Sums) (event : ℕ) (candidate : Candidate) : Type 0 where
  pub least : IsLeast sums candidate
  pub first : (map : List ℕ) (sum : ℕ) → sums map sum → slice_index map event < slice_index candidate.map.items event → candidate.cost < sum

-- each map that precedes the candidate at one of so many events in front has a greater sum
abbrev pub IsSettled : Sums → ℕ → Candidate → Type 0
IsSettled sums events candidate =
    (map : List ℕ) (sum : ℕ) → sums map sum → Precedes (take events map) (take events candidate.map.items) → candidate.cost < sum

-- the first map of least sum, which is this cost; or a map of least sum that is settled up to where it stopped
abbrev pub IsFirstOutcome : Sums → ℕ → First → Type 0
IsFirstOutcome sums cost (Done candidate) = IsFirst sums candidate × (candidate.cost ≡ cost)
IsFirstOutcome sums cost (Spent candidate settled) = IsLeast sums candidate × (candidate.cost ≡ cost) × IsSettled sums settled candidate

-- no fewer events are settled than before, and no more than there are
abbrev pub IsSettledWithin : ℕ → ℕ → First → Type 0
IsSettledWithin before events (Done candidate) = ⊤
IsSettledWithin before events (Spent candidate settled) = (before ≤ settled) × (settled ≤ events)

-- it stops only where nothing is left of the budget
abbrev pub EndsUnlessSpent : Option ℕ → First → Type 0
EndsUnlessSpent left (Done candidate) = ⊤
EndsUnlessSpent left (Spent candidate settled) = left ≡ Some 0
