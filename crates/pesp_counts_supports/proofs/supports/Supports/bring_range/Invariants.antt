-- The residues before the next one were brought, and those of them that were not met cost a look.
use Rattle.std.proofs.Common.{◌≡◌, ◌+◌, ◌-◌, ◌≤◌, length}
use Rattle.pesp_counts_supports.specs.Blocks.{of_met}
use Rattle.pesp_counts_supports.specs.Restored.{IsBrought, of_range}
use Rattle.pesp_counts_supports.specs.Spent.{unmet}
use Rattle.pesp_counts_supports.proofs.supports.Supports.bring_range.Given as goal

abbrev pub invariant-loop-residue : goal.invariant-loop-residue
invariant-loop-residue l =
    record {
      can_next : (goal.iterator-loop-residue).can_next l.residue-iterator;
      finite : (goal.iterator-loop-residue).is_finite l.residue-iterator;
      low : l.fn.residues.start ≤ l.residue-iterator.start;
      high : l.residue-iterator.start ≤ l.fn.residues.end;
      end : l.residue-iterator.end ≡ l.fn.residues.end;
      brought : IsBrought (of_met l.fn.self.sums l.met (of_range l.place l.fn.residues.start l.residue-iterator.start)) l.fn.self l.self l.fn.back l.back;
      probes : l.self.probes + length l.fn.back.items ≤ l.fn.self.probes + length l.back.items + unmet l.fn.self.sums l.met l.fn.residues.start (l.residue-iterator.start - l.fn.residues.start);
    }
