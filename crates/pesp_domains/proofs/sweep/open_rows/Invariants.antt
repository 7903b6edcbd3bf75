-- The rows are open under the pushed pairs so far.
use Rattle.std.proofs.Common.{take}
use Rattle.pesp_domains.specs.Rows.{HaveSameShape, has}
use Rattle.pesp_domains.specs.Sweeps.{AreOpen}
use Rattle.pesp_domains.proofs.sweep.open_rows.Given as goal

abbrev pub invariant-loop-pair : goal.invariant-loop-pair
invariant-loop-pair l = record {
  shape : HaveSameShape l.fn.rows l.rows;
  admitted : AreOpen l.instance (take l.pair-index l.pushed) (has l.rows);
}
