-- None of the residues before was in the row.
use Rattle.std.proofs.Common.{◌≡◌}
use Rattle.std.specs.List.{list_any}
use Rattle.pesp_domains.specs.Domains.{holds}
use Rattle.pesp_domains.proofs.sweep.holds_any.Given as goal

abbrev pub invariant-loop-residue : goal.invariant-loop-residue
invariant-loop-residue l = record {
  can_next : (goal.iterator-loop-residue).can_next l.residue-iterator;
  is_finite : (goal.iterator-loop-residue).is_finite l.residue-iterator;
  left : list_any (holds l.row) l.residue-iterator ≡ list_any (holds l.row) l.fn.residues;
}
