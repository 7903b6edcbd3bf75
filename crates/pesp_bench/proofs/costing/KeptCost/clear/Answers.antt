-- The cost moves by what lies at the event, and one event more lacks a time.
use Rattle.std.proofs.Common.{◌+◌, arith}
use Rattle.pesp_bench.proofs.CostMoves.{after_clear, around_part, cost_small}
use Rattle.pesp_bench.proofs.costing.KeptCost.clear.Goals as goal

pub replace-requires-clause-part : goal.replace-requires-clause-part
replace-requires-clause-part c =
    let part = around_part c.args.instance.now c.args.times.now c.args.event in
    omega (arith, part, c.costs_around-costs.ensures.before, c.requires.costed.costs)

pub replace-requires-clause-room : goal.replace-requires-clause-room
replace-requires-clause-room c =
    let small = cost_small c.args.instance.now c.args.times.now c.costs_around-costs.ensures.network c.requires.times.period in
    let most = c.costs_around-costs.ensures.small in
    omega (arith, small, most.1, c.requires.costed.costs)

pub returns-clause-costed : goal.returns-clause-costed
returns-clause-costed c =
    let costs = c.costs_around-costs.result in
    after_clear c.args.instance.now c.args.times.now c.clear.new.self c.args.event c.args.self.now.cost c.args.self.now.missing costs.0 costs.1
    c.replace.new.self.cost (c.replace.new.self.missing + 1) c.requires.times c.requires.costed c.requires.timed c.clear.ensures.without c.costs_around-costs.ensures.before c.costs_around-costs.ensures.after c.replace.ensures.cost
    (omega (arith, c.replace.ensures.missing))
