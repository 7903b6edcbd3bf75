-- Each residue is the only one.
use Rattle.std.proofs.Common.{arith}
use Rattle.pesp_search_cycles.proofs.Tested.{only}
use Rattle.pesp_search_cycles.proofs.admitted.only_map.Goals as goal

pub returns-clause-some : goal.returns-clause-some
returns-clause-some c xs i =
    only c.args.ranges.now xs c.loop-index.map.items c.requires (omega (arith, c.loop-index.invariant.long)) (λ k h. c.loop-index.invariant.each k (omega (arith, h))) i
