-- The mates of the ends to come are exact by the one set, and all others but the spared ones by the other.
use Rattle.std.proofs.Common.{◌≢◌, ◌≤◌, ◌+◌, ◌*◌, ℕ, Bool, AllPairs, length}
use Rattle.std.specs.List.{Contains}
use Rattle.pesp_domains.specs.Sweeps.{Pairs}
use Rattle.pesp_counts_arcs.specs.Ends.{ends_of}
use Rattle.pesp_counts_supports.specs.Moves.{Moves, OnlyCounts}
use Rattle.pesp_counts_supports.proofs.Blocked.{AreMovingBut}
use Rattle.pesp_counts_supports.proofs.supports.Supports.move_around.Given as goal

abbrev pub invariant-loop-number : goal.invariant-loop-number
invariant-loop-number l = record {
  can_next : (goal.iterator-loop-number).can_next l.number-iterator;
  is_finite : (goal.iterator-loop-number).is_finite l.number-iterator;
  listed : (m : ℕ) → Contains l.number-iterator m → Contains (ends_of l.links.lists l.place) m;
  once : AllPairs (λ j k. j ≢ k) l.number-iterator;
  moving : (from to : Pairs) (moves : ℕ → Bool) → Moves l.links l.spared l.fn.self l.place l.moved l.way from moves to → AreMovingBut l.fn.self.period l.links.ends l.links.lists l.spared from to l.self.counts l.number-iterator;
  only : OnlyCounts l.fn.self l.self;
  probes : l.self.probes + l.fn.self.period * length l.number-iterator ≤ l.fn.self.probes + l.fn.self.period * length (ends_of l.links.lists l.place);
}
