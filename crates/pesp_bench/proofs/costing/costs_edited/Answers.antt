-- The activity is looked for before the edit alone; what it becomes is what the edit says.
use Rattle.std.proofs.Common.{rules, sym}
use Rattle.pesp_bench.proofs.CostMoves.{found_part}
use Rattle.pesp_bench.proofs.EditCosts.{costs_added, costs_found, some_found}
use Rattle.pesp_bench.proofs.costing.costs_edited.Goals as goal

pub returns-in-AddActivity-clause-value : goal.returns-in-AddActivity-clause-value
returns-in-AddActivity-clause-value c J makes =
    rw c.in-AddActivity.is (costs_added c.args.instance.now J c.args.times.now c.in-AddActivity.activity c.cost_at.result (rw c.in-AddActivity.is at makes) c.cost_at.ensures.value)

pub returns-in-Some-clause-value : goal.returns-in-Some-clause-value
returns-in-Some-clause-value c J makes =
    costs_found c.args.instance.now J c.args.times.now c.args.edit.now _ c.in-Some.activity.now c.costs_changed.result.0 c.costs_changed.result.1
    makes (sym c.in-Some.ensures.value) c.costs_changed.ensures.before c.costs_changed.ensures.after (search rules)

pub returns-in-Some-clause-part : goal.returns-in-Some-clause-part
returns-in-Some-clause-part c =
    found_part c.args.instance.now c.args.times.now _ c.in-Some.activity.now c.costs_changed.result.0 c.activity.ensures.network (sym c.in-Some.ensures.value) c.costs_changed.ensures.before

pub returns-in-None-clause-value : goal.returns-in-None-clause-value
returns-in-None-clause-value c J makes = absurd (some_found c.args.instance.now J c.args.edit.now _ makes (sym c.in-None.ensures.value) (search rules))
