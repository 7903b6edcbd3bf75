-- Nothing is seen of the rows that came.
use Rattle.std.proofs.Common.{◌≡◌, ◌-◌, ◌≤◌, length, max}
use Rattle.pesp_counts_supports.specs.Supports.{ArePadded}
use Rattle.pesp_counts_supports.proofs.growing.add_rows.Given as goal

abbrev pub invariant-loop-alloc : goal.invariant-loop-alloc
invariant-loop-alloc l =
    record {
      rows : ArePadded l.fn.period l.fn.rows.items l.rows.items;
      counted : ArePadded l.fn.period l.fn.counted.items l.counted.items;
      even : length l.counted.items ≡ length l.rows.items;
      few : length l.rows.items ≤ max (length l.fn.rows.items) l.fn.places;
    }

abbrev pub decreases-loop-alloc : goal.decreases-loop-alloc
decreases-loop-alloc l = l.places - length l.rows.items
