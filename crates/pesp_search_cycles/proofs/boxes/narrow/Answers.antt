-- One range more is narrowed.
use Rattle.std.proofs.Common.{arith}
use Rattle.pesp_search_cycles.proofs.Narrowed.{up_to_all, up_to_more}
use Rattle.pesp_search_cycles.proofs.boxes.narrow.Goals as goal

pub loop-index-preserved : goal.loop-index-preserved
loop-index-preserved c =
    let i = c.loop-index.index in
    up_to_more c.args.ranges.now c.args.others.now c.loop-index.ranges i c.both.result (omega (arith, c.loop-index-test.true, c.loop-index.invariant.long, c.requires)) c.loop-index.invariant c.both.ensures

pub returns : goal.returns
returns c = up_to_all c.args.ranges.now c.args.others.now c.loop-index.ranges c.loop-index.index (λ h. omega (arith, h, c.loop-index-test.false)) (omega (arith, c.loop-index.auto.index-end)) c.loop-index.invariant
