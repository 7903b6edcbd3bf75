-- What maps of the events to residues sum up to. A relation says of a map and a number that the map has this sum; a map may have none.
use Rattle.std.specs.Prelude.{◌≡◌, ℕ, ◌<◌, ◌≤◌, ◌⊎◌, ⊤, List, [], ◌∷◌, Option, Some, IfSome, length}
use Rattle.pesp_search_least.specs.declared.outcome.Candidate.{Candidate}
use Rattle.pesp_search_least.specs.declared.outcome.Outcome.{Outcome}
use Rattle.pesp_search_least.specs.declared.outcome.Outcome.TheVariants.{Found, NoneBelow, Spent}
use Rattle.pesp_search_least.specs.declared.relaxation.Split.{Split}
use Rattle.pesp_search_least.specs.declared.relaxation.Split.TheVariants.{Solved, Empty, Halves}

-- which sum a map has
abbrev pub Sums : Type 1
Sums = List ℕ → ℕ → Type 0

-- no map has a sum
abbrev pub IsEmpty : Sums → Type 0
IsEmpty sums = (map : List ℕ) (sum : ℕ) → sums map sum → ⊥

-- no map has a lesser sum
abbrev pub IsLowerBound : Sums → ℕ → Type 0
IsLowerBound sums bound = (map : List ℕ) (sum : ℕ) → sums map sum → bound ≤ sum

-- no map has a sum that is below the cap and less than the bound
abbrev pub IsLowerBoundBelow : Sums → ℕ → ℕ → Type 0
IsLowerBoundBelow sums cap bound = (map : List ℕ) (sum : ℕ) → sums map sum → sum < cap → bound ≤ sum

-- each sum of the one is a sum of the other
abbrev pub IsWithin : Sums → Sums → Type 0
IsWithin few many = (map : List ℕ) (sum : ℕ) → few map sum → many map sum

-- each map has so many residues
abbrev pub AreLong : Sums → ℕ → Type 0
AreLong sums events = (map : List ℕ) (sum : ℕ) → sums map sum → length map ≡ events

-- each sum below the cap is kept, and no sum is new
pub record IsCut (cap : ℕ) (old new : Sums) : Type 0 where
  pub keeps : (map : List ℕ) (sum : ℕ) → sum < cap → old map sum → new map sum
  pub within : IsWithin new old

-- each sum is in one of the halves, and no sum is new
pub record AreHalves (old first second : Sums) : Type 0 where
  pub keeps : (map : List ℕ) (sum : ℕ) → old map sum → first map sum ⊎ second map sum
  pub first_within : IsWithin first old
  pub second_within : IsWithin second old

-- each sum below the cap is in one of the halves, and no sum is new
pub record AreHalvesBelow (cap : ℕ) (old first second : Sums) : Type 0 where
  pub keeps : (map : List ℕ) (sum : ℕ) → sum < cap → old map sum → first map sum ⊎ second map sum
  pub first_within : IsWithin first old
  pub second_within : IsWithin second old

-- the candidate's map has its sum
abbrev pub IsCandidate : Sums → Candidate → Type 0
IsCandidate sums candidate = sums candidate.map.items candidate.cost

-- no map has a lesser sum than the candidate
pub record IsLeast (sums : Sums) (candidate : Candidate) : Type 0 where
  pub has : IsCandidate sums candidate
  pub least : IsLowerBound sums candidate.cost

-- what was split is solved by a map of least sum, or has no map, or is in two halves of a lesser size
abbrev pub IsSplit : {R : Type 0} → (R → Sums) → (R → ℕ) → R → R → Split R → Type 0
IsSplit {R} sums size old new (Solved candidate) = IsLeast (sums old) candidate
IsSplit {R} sums size old new Empty = IsEmpty (sums old)
IsSplit {R} sums size old new (Halves other) = (size new < size old) × (size other < size old) × AreHalves (sums old) (sums new) (sums other)

-- the other half of a split stands on this
abbrev pub IsOn : {R B : Type 0} → (R → B) → B → Split R → Type 0
IsOn {R} {B} base b (Solved candidate) = ⊤
IsOn {R} {B} base b Empty = ⊤
IsOn {R} {B} base b (Halves other) = base other ≡ b

-- a map has the sum in one of these
abbrev pub InSome : {R : Type 0} → (R → Sums) → List R → Sums
InSome {R} sums [] map sum = ⊥
InSome {R} sums (r ∷ rs) map sum = sums r map sum ⊎ InSome sums rs map sum

-- the candidate's map has its sum, which is below the cap
abbrev pub IsBelow : Sums → ℕ → Candidate → Type 0
IsBelow sums cap candidate = IsCandidate sums candidate × (candidate.cost < cap)

-- a map of least sum, below the cap; or no sum is below it; or what was found, and a lower bound on every sum below the cap
abbrev pub IsOutcome : Sums → ℕ → Outcome → Type 0
IsOutcome sums cap (Found candidate) = IsLeast sums candidate × (candidate.cost < cap)
IsOutcome sums cap NoneBelow = IsLowerBound sums cap
IsOutcome sums cap (Spent best lower_bound) = IfSome best (IsBelow sums cap) × IsLowerBoundBelow sums cap lower_bound

-- it stops only where nothing is left of the budget
abbrev pub StopsWhereSpent : Option ℕ → Outcome → Type 0
StopsWhereSpent left (Found candidate) = ⊤
StopsWhereSpent left NoneBelow = ⊤
StopsWhereSpent left (Spent best lower_bound) = left ≡ Some 0

-- it stops before the end
abbrev pub IsStop : Outcome → Type 0
IsStop (Found candidate) = ⊥
IsStop NoneBelow = ⊥
IsStop (Spent best lower_bound) = ⊤
