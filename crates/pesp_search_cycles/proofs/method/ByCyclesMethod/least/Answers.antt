-- A unit is spent first.
use Rattle.pesp_search_least.specs.Spending.{OnlySpends, SpendsUnit}
use Rattle.pesp_search_least.proofs.Budgets.{spends_none, spends_on, unit_before, unit_of_one}
use Rattle.pesp_search_cycles.proofs.method.ByCyclesMethod.least.Goals as goal
use Rattle.pesp_search_cycles.proofs.method.ByCyclesMethod.least.Goals.{in-Some-stopped, in-None+in_ok-search-in-None}

pub returns-clause-budget : goal.returns-clause-budget
returns-clause-budget c =
    let mid : OnlySpends c.spend.new.self.left c.match-stopped.budget.left =
    elim c.match-stopped.branch [
      | in-Some-stopped w ↦ rw w.budget-is (spends_none c.spend.new.self.left)
      | in-None+in_ok-search-in-None w ↦ rw w.budget-is w.in_ok-search-in-None.ensures.budget
    ] in
    spends_on _ _ _ c.spend.ensures.spends (spends_on _ _ _ mid c.go_on.ensures.budget)

pub returns-in_err-outcome-2-clause-budget : goal.returns-in_err-outcome-2-clause-budget
returns-in_err-outcome-2-clause-budget c =
    let mid : OnlySpends c.spend.new.self.left c.match-stopped.budget.left =
    elim c.match-stopped.branch [
      | in-Some-stopped w ↦ rw w.budget-is (spends_none c.spend.new.self.left)
      | in-None+in_ok-search-in-None w ↦ rw w.budget-is w.in_ok-search-in-None.ensures.budget
    ] in
    spends_on _ _ _ c.spend.ensures.spends (spends_on _ _ _ mid c.go_on.ensures.budget)

pub returns-clause-spends : goal.returns-clause-spends
returns-clause-spends c = λ less some.
    let mid : OnlySpends c.spend.new.self.left c.match-stopped.budget.left =
    elim c.match-stopped.branch [
      | in-Some-stopped w ↦ rw w.budget-is (spends_none c.spend.new.self.left)
      | in-None+in_ok-search-in-None w ↦ rw w.budget-is w.in_ok-search-in-None.ensures.budget
    ] in
    let one : SpendsUnit c.args.budget.now.left c.spend.new.self.left = rw c.spend.ensures.left (unit_of_one c.args.budget.now.left some) in
    unit_before _ _ _ one (spends_on _ _ _ mid c.go_on.ensures.budget)
