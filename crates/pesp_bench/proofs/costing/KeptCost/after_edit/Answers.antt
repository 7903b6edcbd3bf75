-- The cost moves by what the edited activity costs.
use Rattle.std.proofs.Common.{arith}
use Rattle.pesp_bench.proofs.CostMoves.{after_edit, cost_small}
use Rattle.pesp_bench.proofs.costing.KeptCost.after_edit.Goals as goal

pub overflow_sub-result : goal.overflow_sub-result
overflow_sub-result c = omega (arith, c.costs_edited-costs.ensures.part, c.requires.costed.costs)

pub overflow_add-result : goal.overflow_add-result
overflow_add-result c =
    let small = cost_small c.args.instance.now c.args.times.now c.requires.network c.requires.times.period in
    omega (arith, small, c.costs_edited-costs.ensures.small, c.requires.costed.costs)

pub returns : goal.returns
returns c J makes =
    let costs = c.costs_edited-costs.result in
    after_edit c.args.instance.now J c.args.times.now c.args.edit.now c.args.self.now.cost c.args.self.now.missing costs.0 costs.1 _ c.missing_after.result
    c.requires.network c.requires.times c.requires.costed makes (c.costs_edited-costs.ensures.value J makes) (omega (arith, c.costs_edited-costs.ensures.part, c.requires.costed.costs)) c.missing_after.ensures
