-- What the expansion of a node does.
use Rattle.std.specs.Prelude.{◌≡◌, ℕ, ◌<◌, ◌≤◌, ◌⊎◌, Option, Some, None}
use Rattle.pesp_search_least.specs.declared.outcome.Candidate.{Candidate}
use Rattle.pesp_search_least.specs.declared.outcome.Outcome.{Outcome}
use Rattle.pesp_search_least.specs.declared.outcome.Outcome.TheVariants.{Found, NoneBelow}
use Rattle.pesp_search_least.specs.Sums.{AreHalvesBelow, IsCandidate, IsLowerBound, Sums}

-- only sums below this are of use: the cost of the best, or the cap where there is none
abbrev pub limit_of : ℕ → Option Candidate → ℕ
limit_of cap None = cap
limit_of cap (Some best) = best.cost

-- the candidate is the best from now on, where its cost is below the limit; where it is not, the best stays
pub record IsKept (cap : ℕ) (candidate : Candidate) (old new : Option Candidate) : Type 0 where
  pub better : candidate.cost < limit_of cap old → new ≡ Some candidate
  pub worse : limit_of cap old ≤ candidate.cost → new ≡ old

-- what was found where every sum below the limit was gone through
abbrev pub outcome_of : Option Candidate → Outcome
outcome_of (Some best) = Found best
outcome_of None = NoneBelow

-- the best stays, or one of these maps with a sum below the limit replaces it
abbrev pub IsBetter : Sums → ℕ → Option Candidate → Option Candidate → Type 0
IsBetter sums cap old new =
    (new ≡ old) ⊎ ((candidate : Candidate) × (new ≡ Some candidate) × IsCandidate sums candidate × (candidate.cost < limit_of cap old))

-- no sum is below the limit, or each one that is stands in one of two halves of a lesser size
abbrev pub IsExpanded : {R : Type 0} → ℕ → (R → Sums) → (R → ℕ) → R → R → Option R → Type 0
IsExpanded {R} limit sums size old new None = IsLowerBound (sums old) limit
IsExpanded {R} limit sums size old new (Some other) =
    (size new < size old) × (size other < size old) × AreHalvesBelow limit (sums old) (sums new) (sums other)
