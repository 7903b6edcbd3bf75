-- A pushed pair more limits the row of its event.
use Rattle.std.proofs.Common.{take}
use Rattle.std.proofs.lemmas.List.{take_more}
use Rattle.pesp_domains.specs.Rows.{has}
use Rattle.pesp_domains.proofs.Opened.{shape_then}
use Rattle.pesp_domains.proofs.Pushes.{open_more}
use Rattle.pesp_domains.proofs.sweep.open_rows.Goals as goal

pub loop-pair-preserved : goal.loop-pair-preserved
loop-pair-preserved c =
    let x = c.pair-item.result in
    let one_more = open_more c.args.instance.now (take c.loop-pair.pair-index c.args.pushed.now) x (has c.loop-pair.rows) (has c.keep_only.new.self) c.keep_only.ensures.has c.loop-pair.invariant.admitted in
    record {
      shape = shape_then _ _ _ c.loop-pair.invariant.shape c.keep_only.ensures.shape;
      admitted = rw (take_more c.args.pushed.now c.loop-pair.pair-index x c.loop-pair-test.true, ← c.pair-item.is) one_more;
    }
