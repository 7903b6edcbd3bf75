-- The ends so far are wide.
use Rattle.std.proofs.Common.{◌≡◌, ℕ, ◌≤◌, ◌⊎◌, length}
use Rattle.std.specs.List.{Contains}
use Rattle.pesp_counts_arcs.specs.Ends.{ends_of}
use Rattle.pesp_counts_supports.specs.Supports.{IsWide}
use Rattle.pesp_counts_supports.proofs.supports.Supports.widen.Given as goal

abbrev pub invariant-loop-number : goal.invariant-loop-number
invariant-loop-number l =
    record {
      can : (goal.iterator-loop-number).can_next l.number-iterator;
      finite : (goal.iterator-loop-number).is_finite l.number-iterator;
      listed : (k : ℕ) → Contains l.number-iterator k → Contains (ends_of l.fn.links.lists l.fn.place) k;
      wide : (k : ℕ) → Contains (ends_of l.fn.links.lists l.fn.place) k ⊎ IsWide l.initial.self-inside.period l.fn.links.ends l.initial.self-inside.counts.values k → Contains l.number-iterator k ⊎ IsWide l.initial.self-inside.period l.fn.links.ends l.self-inside.counts.values k;
      most : l.initial.self-inside.period ≤ l.self-inside.counts.most;
      long : length l.self-inside.counts.values ≡ length l.initial.self-inside.counts.values;
      same : l.self-inside ≡ record l.initial.self-inside { counts = l.self-inside.counts };
    }
