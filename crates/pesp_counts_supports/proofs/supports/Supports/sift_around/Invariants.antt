-- The pairs of the rows lack a count at most at the mates of the ends to come, and no closed set lost any.
use Rattle.std.proofs.Common.{ℕ}
use Rattle.std.specs.List.{Contains}
use Rattle.pesp_counts_arcs.specs.Ends.{ends_of}
use Rattle.pesp_counts_supports.specs.Counts.{KeepsClosed, has_at}
use Rattle.pesp_counts_supports.specs.Resting.{AreLiveBut}
use Rattle.pesp_counts_supports.specs.Supports.{OnlyTakes}
use Rattle.pesp_counts_supports.proofs.supports.Supports.sift_around.Given as goal

abbrev pub invariant-loop-number : goal.invariant-loop-number
invariant-loop-number l = record {
  can_next : (goal.iterator-loop-number).can_next l.number-iterator;
  is_finite : (goal.iterator-loop-number).is_finite l.number-iterator;
  listed : (m : ℕ) → Contains l.number-iterator m → Contains (ends_of l.links.lists l.place) m;
  live : AreLiveBut l.links l.self l.left l.number-iterator;
  closed : KeepsClosed l.fn.self.period l.links.ends l.links.lists (has_at l.fn.self.rows) (has_at l.self.rows);
  takes : OnlyTakes l.fn.self l.self;
}
