-- The rows hold fewer pairs after each sweep but the last.
use Rattle.pesp_domains.specs.Rows.{HaveSameShape, has}
use Rattle.pesp_domains.specs.Sweeps.{Shrinks, held}
use Rattle.pesp_domains.proofs.sweep.settle.Given as goal

abbrev pub invariant-loop : goal.invariant-loop
invariant-loop l = record {
  shape : HaveSameShape l.initial.rows l.rows;
  shrinks : Shrinks l.instance (has l.initial.rows) (has l.rows);
}

abbrev pub decreases-loop : goal.decreases-loop
decreases-loop l = held l.instance (has l.rows)
