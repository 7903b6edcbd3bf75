-- Where no event lacks a time, the kept cost is the answer.
use Rattle.pesp_bench.proofs.CostMoves.{told_so}
use Rattle.pesp_bench.proofs.costing.KeptCost.cost.Goals as goal

pub returns-then-self-eq0 : goal.returns-then-self-eq0
returns-then-self-eq0 c =
    told_so c.args.instance.now c.args.times.now c.args.self.now.cost c.args.self.now.missing c.period-period.ensures.network c.requires.times c.requires.costed c.if-self-eq0.true
