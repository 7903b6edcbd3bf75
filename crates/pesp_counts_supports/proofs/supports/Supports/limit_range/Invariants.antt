-- Of the residues of the range none before this one is left.
use Rattle.std.proofs.Common.{◌≡◌, ◌≤◌, true}
use Rattle.pesp_counts_supports.specs.Supports.{OnlyTakes}
use Rattle.pesp_counts_supports.proofs.Rows.{Clears}
use Rattle.pesp_counts_supports.proofs.supports.Supports.limit_range.Given as goal

abbrev pub invariant-loop-residue : goal.invariant-loop-residue
invariant-loop-residue l = record {
  can_next : (goal.iterator-loop-residue).can_next l.residue-iterator;
  finite : (goal.iterator-loop-residue).is_finite l.residue-iterator;
  low : l.fn.residues.start ≤ l.residue-iterator.start;
  end : l.residue-iterator.end ≡ l.fn.residues.end;
  high : l.residue-iterator.start ≤ l.fn.residues.end;
  rows : Clears l.place (λ r. true) l.fn.residues.start l.residue-iterator.start l.fn.self.rows l.self.rows;
  takes : OnlyTakes l.fn.self l.self;
}
