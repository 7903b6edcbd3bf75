-- What the local search spends, and then the search.
use Rattle.pesp_search_least.proofs.Budgets.{spends_on}
use Rattle.pesp_search_cycles.proofs.least_turns.LeastTurns.advance.Goals as goal

pub returns-in_err-outcome-clause-budget : goal.returns-in_err-outcome-clause-budget
returns-in_err-outcome-clause-budget c = spends_on _ _ _ c.in_ok-search.ensures.budget c.advance.ensures.budget

pub returns-in_default-clause-budget : goal.returns-in_default-clause-budget
returns-in_default-clause-budget c = spends_on _ _ _ c.in_ok-search.ensures.budget c.advance.ensures.budget
