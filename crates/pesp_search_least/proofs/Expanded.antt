-- The expansion of a node: what becomes of its sums, and of the best.
use Rattle.std.proofs.Common.{◌≡◌, ℕ, ◌≤◌, Option, Some, None, refl, inl, inr, arith}
use Rattle.std.proofs.lemmas.Bool.{cases_lt}
use Rattle.pesp_search_least.specs.declared.outcome.Candidate.{Candidate}
use Rattle.pesp_search_least.specs.Sums.{IsCandidate, IsLowerBound, IsWithin, Sums}
use Rattle.pesp_search_least.specs.Expansions.{IsBetter, IsExpanded, IsKept, limit_of}

-- ---- the best

-- a candidate that is kept is the best, or the best stays
pub better_kept : (sums : Sums) (cap : ℕ) (c : Candidate) (old new : Option Candidate) → IsKept cap c old new → IsCandidate sums c → IsBetter sums cap old new
better_kept sums cap c old new is has =
    elim (cases_lt c.cost (limit_of cap old)) [ inl less ↦ inr (c, is.better less, has, less) | inr more ↦ inl (is.worse more) ]

-- the limit does not rise
pub better_limit : (sums : Sums) (cap : ℕ) (old new : Option Candidate) → IsBetter sums cap old new → limit_of cap new ≤ limit_of cap old
better_limit sums cap old new (inl same) = rw same (omega arith)
better_limit sums cap old new (inr (c, is, has, less)) = rw is (omega (arith, less))

-- one of fewer maps is one of many
pub better_within : (few many : Sums) (cap : ℕ) (old new : Option Candidate) → IsWithin few many → IsBetter few cap old new → IsBetter many cap old new
better_within few many cap old new within (inl same) = inl same
better_within few many cap old new within (inr (c, is, has, less)) = inr (c, is, within c.map.items c.cost has, less)

-- a candidate of what a cut left is one of the node
pub better_cut : (tight node : Sums) (cap : ℕ) (c : Candidate) (old new : Option Candidate) → IsWithin tight node → IsKept cap c old new → IsCandidate tight c → IsBetter node cap old new
better_cut tight node cap c old new within is has = better_within tight node cap old new within (better_kept tight cap c old new is has)

-- one after the other
pub better_on : (sums : Sums) (cap : ℕ) (old mid new : Option Candidate) → IsBetter sums cap old mid → IsBetter sums cap mid new → IsBetter sums cap old new
better_on sums cap old mid new first (inl same) = rw same first
better_on sums cap old mid new first (inr (c, is, has, less)) = inr (c, is, has, omega (arith, less, better_limit sums cap old mid first))

-- where an expansion hands nothing out, no sum is below the limit
pub expanded_alone : {R : Type 0} (limit : ℕ) (sums : R → Sums) (size : R → ℕ) (old new : R) (other : Option R) → ((r : R) → other ≡ Some r → ⊥) → IsExpanded limit sums size old new other → IsLowerBound (sums old) limit
expanded_alone {R} limit sums size old new None alone is = is
expanded_alone {R} limit sums size old new (Some r) alone is = absurd (alone r refl)
