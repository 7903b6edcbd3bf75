-- With other ends it goes by their times.
use Rattle.std.proofs.Common.{refl, rules}
use Rattle.pesp_bench.proofs.costing.costs_changed.Goals as goal

pub returns-in-SetEnds-clause-after : goal.returns-in-SetEnds-clause-after
returns-in-SetEnds-clause-after c =
    let cost = c.cost_between-after-in-SetEnds.ensures.value in
    rw (c.in-SetEnds.is, cost, c.unwrap_or-from-in-SetEnds.ensures, c.get-in-SetEnds.ensures.time, c.unwrap_or-to-in-SetEnds.ensures, c.get-in-SetEnds-2.ensures.time, c.period-period.ensures) refl

pub returns-in-SetWeight-clause-after : goal.returns-in-SetWeight-clause-after
returns-in-SetWeight-clause-after c = search rules

pub returns-in_default-clause-after : goal.returns-in_default-clause-after
returns-in_default-clause-after c = search rules
