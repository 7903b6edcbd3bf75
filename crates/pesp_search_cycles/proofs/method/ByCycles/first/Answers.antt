-- What is spent where a search begins, and as it goes on.
use Rattle.pesp_search_least.specs.Spending.{OnlySpends}
use Rattle.pesp_search_least.proofs.Budgets.{spends_none, spends_on}
use Rattle.pesp_search_cycles.proofs.method.ByCycles.first.Goals as goal
use Rattle.pesp_search_cycles.proofs.method.ByCycles.first.Goals.{in-Some, in-None+in_ok-search-in-None}

pub returns-clause-budget : goal.returns-clause-budget
returns-clause-budget c =
    let mid : OnlySpends c.args.budget.now.left c.match-unsettled.budget.left =
    elim c.match-unsettled.branch [
      | in-Some w ↦ rw w.budget-is (spends_none c.args.budget.now.left)
      | in-None+in_ok-search-in-None w ↦ rw w.budget-is w.in_ok-search-in-None.ensures.budget
    ] in
    spends_on _ _ _ mid c.advance.ensures.budget

pub returns-in_err-told-clause-budget : goal.returns-in_err-told-clause-budget
returns-in_err-told-clause-budget c =
    let mid : OnlySpends c.args.budget.now.left c.match-unsettled.budget.left =
    elim c.match-unsettled.branch [
      | in-Some w ↦ rw w.budget-is (spends_none c.args.budget.now.left)
      | in-None+in_ok-search-in-None w ↦ rw w.budget-is w.in_ok-search-in-None.ensures.budget
    ] in
    spends_on _ _ _ mid c.advance.ensures.budget
