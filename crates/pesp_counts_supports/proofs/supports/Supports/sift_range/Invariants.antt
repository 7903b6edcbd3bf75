-- Of the residues of the range before this one those with a count above 0 are left.
use Rattle.std.proofs.Common.{◌≤◌, ◌==◌, ◌-◌}
use Rattle.pesp_counts_supports.specs.Counts.{count_at}
use Rattle.pesp_counts_supports.specs.Supports.{OnlyTakes}
use Rattle.pesp_counts_supports.proofs.Rows.{Clears}
use Rattle.pesp_counts_supports.proofs.supports.Supports.sift_range.Given as goal

abbrev pub invariant-lone : goal.invariant-lone
invariant-lone l = record {
  low : l.fn.residues.start ≤ l.from;
  high : l.from ≤ l.fn.residues.end;
  rows : Clears l.place (λ r. count_at l.fn.self.period l.fn.self.counts l.end r == 0) l.fn.residues.start l.from l.fn.self.rows l.self.rows;
  takes : OnlyTakes l.fn.self l.self;
}

abbrev pub decreases-lone : goal.decreases-lone
decreases-lone l = l.fn.residues.end - l.from
