-- The pairs of the trail before the next one are counted out, and what the others owe is kept.
use Rattle.std.proofs.Common.{◌+◌, ◌-◌, ◌*◌, ◌≤◌, drop}
use Rattle.pesp_counts_supports.specs.Counts.{ArePending, KeepsClosed, has_at}
use Rattle.pesp_counts_supports.specs.Moves.{owed}
use Rattle.pesp_counts_supports.specs.Supports.{HaveSameShape, IsTaken}
use Rattle.pesp_counts_supports.specs.Spent.{ends_at}
use Rattle.pesp_counts_supports.proofs.supports.Supports.settle.Given as goal

abbrev pub invariant-loop-next : goal.invariant-loop-next
invariant-loop-next l = record {
  pending : ArePending l.fn.self.period l.links.ends l.links.lists l.self.counts (has_at l.self.counted) (has_at l.self.rows) l.self.trail l.next;
  keeps : KeepsClosed l.fn.self.period l.links.ends l.links.lists (has_at l.fn.self.rows) (has_at l.self.rows);
  taken : IsTaken l.fn.self l.self;
  shape : HaveSameShape l.fn.self l.self;
  onward : l.fn.next ≤ l.next;
  counts_on : l.fn.self.probes ≤ l.self.probes;
  probes : l.self.probes + l.fn.self.period * owed l.links (has_at l.self.counted) (drop l.next l.self.trail) ≤ l.fn.self.probes + l.fn.self.period * ends_at l.links (drop l.fn.next l.self.trail);
}

abbrev pub decreases-loop-next : goal.decreases-loop-next
decreases-loop-next l = l.self.room - l.next
