-- What is spent in one turn and in those that come after.
use Rattle.std.proofs.Common.{◌≡◌, ℕ, Option, Some}
use Rattle.pesp_search_least.proofs.Budgets.{spends_none, spends_on}
use Rattle.pesp_search_least.specs.Sums.{StopsWhereSpent}
use Rattle.pesp_search_least.specs.declared.outcome.Outcome.{Outcome}
use Rattle.pesp_search_least.specs.declared.outcome.Outcome.TheVariants.{Found, NoneBelow, Spent}
use Rattle.pesp_search_cycles.proofs.method.ByCycles.+go_on.Goals as goal

stops_at_nothing : (left : Option ℕ) (outcome : Outcome) → left ≡ Some 0 → StopsWhereSpent left outcome
stops_at_nothing left (Found candidate) nothing = tt
stops_at_nothing left NoneBelow nothing = tt
stops_at_nothing left (Spent best lower_bound) nothing = nothing

pub returns-then-is_spent-clause-spent : goal.returns-then-is_spent-clause-spent
returns-then-is_spent-clause-spent t c = stops_at_nothing _ _ (c.is_spent.ensures.0 c.if-is_spent.true)

pub returns-clause-budget : goal.returns-clause-budget
returns-clause-budget t c = spends_on _ _ _ c.spend.ensures.spends (spends_on _ _ _ c.in_ok-next.ensures.budget c.go_on.ensures.budget)

pub returns-in_err-flips-clause-budget : goal.returns-in_err-flips-clause-budget
returns-in_err-flips-clause-budget t c = spends_none _
