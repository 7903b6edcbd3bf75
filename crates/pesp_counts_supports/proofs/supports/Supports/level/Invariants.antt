-- The residues before this one are leveled, of the row of the place alone.
use Rattle.std.proofs.Common.{◌≡◌, ◌≤◌, length, All, List, Bool}
use Rattle.pesp_counts_supports.proofs.Moved.{Levels}
use Rattle.pesp_counts_supports.proofs.supports.Supports.level.Given as goal

abbrev pub invariant-loop-residue : goal.invariant-loop-residue
invariant-loop-residue l =
    record {
      can_next : (goal.iterator-loop-residue).can_next l.residue-iterator;
      is_finite : (goal.iterator-loop-residue).is_finite l.residue-iterator;
      end : l.residue-iterator.end ≡ l.initial.residue-iterator.end;
      low : l.initial.residue-iterator.start ≤ l.residue-iterator.start;
      high : l.residue-iterator.start ≤ l.residue-iterator.end;
      leveled : Levels l.place l.initial.residue-iterator.start l.residue-iterator.start l.initial.self-inside.rows.items l.initial.self-inside.counted.items l.self-inside.counted.items;
      counted : All (λ (row : List Bool). length row ≡ l.initial.self-inside.period) l.self-inside.counted.items;
      long : length l.self-inside.counted.items ≡ length l.initial.self-inside.counted.items;
      same : l.self-inside ≡ record l.initial.self-inside { counted = l.self-inside.counted };
    }
