-- Outcomes for sums that are the same.
use Rattle.std.proofs.Common.{ℕ, IfOk, Result, Ok, Err}
use Rattle.pesp_search_least.specs.Sums.{IsOutcome, IsWithin, Sums}
use Rattle.pesp_search_least.specs.declared.outcome.Outcome.{Outcome}
use Rattle.pesp_search_least.proofs.Outcomes.{outcome_same}

pub ok_along : {E : Type 0} (s t : Sums) (cap : ℕ) (result : Result Outcome E) → IsWithin s t → IsWithin t s → IfOk result (IsOutcome s cap) → IfOk result (IsOutcome t cap)
ok_along s t cap (Ok outcome) there back h = outcome_same s t cap outcome there back h
ok_along s t cap (Err e) there back h = tt
