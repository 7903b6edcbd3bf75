-- The maps of all leaves cost as much at least.
use Rattle.pesp_search_cycles.specs.Leaves.{sums_of}
use Rattle.pesp_search_cycles.proofs.Covered.{bounded}
use Rattle.pesp_search_cycles.proofs.leaves.Leaves.push.Goals as goal

pub returns-clause-bound : goal.returns-clause-bound
returns-clause-bound c = bounded (sums_of c.args.node) c.bound.result _ c.bound.ensures c.lesser-self.ensures.bound
