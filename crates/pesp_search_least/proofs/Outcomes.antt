-- Outcomes of sums that are the same, and what a stop leaves.
use Rattle.std.proofs.Common.{ℕ, min, max, Option, Some, None, IfSome, inl, inr, arith}
use Rattle.std.proofs.lemmas.Bool.{cases_lt}
use Rattle.pesp_search_least.specs.declared.outcome.Candidate.{Candidate}
use Rattle.pesp_search_least.specs.declared.outcome.Outcome.{Outcome}
use Rattle.pesp_search_least.specs.declared.outcome.Outcome.TheVariants.{Found, NoneBelow, Spent}
use Rattle.pesp_search_least.specs.Sums.{IsBelow, IsLowerBound, IsLowerBoundBelow, IsOutcome, IsWithin, Sums}

pub below_same : (few many : Sums) (cap : ℕ) (best : Option Candidate) → IsWithin few many → IfSome best (IsBelow few cap) → IfSome best (IsBelow many cap)
below_same few many cap None within is = tt
below_same few many cap (Some c) within is = (within c.map.items c.cost is.0, is.1)

-- where each has the sums of the other, an outcome of the one is one of the other
pub outcome_same : (one other : Sums) (cap : ℕ) (outcome : Outcome) → IsWithin one other → IsWithin other one → IsOutcome one cap outcome → IsOutcome other cap outcome
outcome_same one other cap (Found c) within back is = (
  record { has = within c.map.items c.cost is.0.has; least = λ map sum has. is.0.least map sum (back map sum has) },
  is.1,
)
outcome_same one other cap NoneBelow within back is = λ map sum has. is map sum (back map sum has)
outcome_same one other cap (Spent best lower_bound) within back is = (
  below_same one other cap best within is.0,
  λ map sum has below. is.1 map sum (back map sum has) below,
)

-- ---- one search after another

-- what a stop leaves no sum is below
pub floor_after : (sums : Sums) (floor cap lower_bound : ℕ) → IsLowerBound sums floor → IsLowerBoundBelow sums cap lower_bound → IsLowerBound sums (max floor (min lower_bound cap))
floor_after sums floor cap lower_bound low stop map sum has =
    elim (cases_lt sum cap) [
      | inl below ↦ omega (arith, low map sum has, stop map sum has below)
      | inr above ↦ omega (arith, low map sum has, above)
    ]
