-- What goes along the ends before the next one was brought.
use Rattle.std.proofs.Common.{◌≡◌, ◌≤◌, ◌+◌, ◌-◌, ◌*◌, ◌++◌, ℕ, Bool, List, length}
use Rattle.pesp_counts_arcs.specs.Ends.{ends_of}
use Rattle.pesp_counts_supports.specs.Blocks.{of_blocks}
use Rattle.pesp_counts_supports.specs.Moves.{IsMoved}
use Rattle.pesp_counts_supports.specs.Restored.{IsBrought}
use Rattle.pesp_counts_supports.proofs.supports.Supports.bring_around.Given as goal

abbrev pub invariant-loop-number : goal.invariant-loop-number
invariant-loop-number l =
    record {
      can_next : (goal.iterator-loop-number).can_next l.number-iterator;
      is_finite : (goal.iterator-loop-number).is_finite l.number-iterator;
      walked : (done : List ℕ) × (done ++ l.number-iterator ≡ ends_of l.links.lists l.place) × ((comes : ℕ → Bool) → IsMoved l.fn.self.period l.came l.fn.self.sums comes → IsBrought (of_blocks l.fn.self.period l.instance l.links l.spared comes done) l.fn.self l.self l.fn.back l.back);
      probes : l.self.probes + length l.fn.back.items + (l.fn.self.period - 1) * length l.number-iterator ≤ l.fn.self.probes + length l.back.items + (l.fn.self.period - 1) * length (ends_of l.links.lists l.place);
    }
