-- The pairs of the list before the next one are counted.
use Rattle.std.proofs.Common.{◌≡◌, ◌≤◌, ◌+◌, ◌-◌, ◌*◌, length, vec_capacity, take}
use Rattle.pesp_counts_supports.specs.Spent.{ends_at}
use Rattle.pesp_counts_supports.proofs.Coming.{AreComing, AreCounted}
use Rattle.pesp_counts_supports.proofs.supports.Supports.restore.Given as goal

abbrev pub invariant-loop-next : goal.invariant-loop-next
invariant-loop-next l =
    record {
      coming : AreComing l.instance l.links l.starts l.spared l.fn.self l.self l.back;
      counted : AreCounted l.self l.back l.next;
      room : vec_capacity l.back ≡ vec_capacity l.fn.back;
      probes : l.self.probes ≤ l.fn.self.probes + (2 * l.fn.self.period - 1) * ends_at l.links (take l.next l.back.items) + length l.back.items;
    }

abbrev pub decreases-loop-next : goal.decreases-loop-next
decreases-loop-next l = vec_capacity l.back - l.next
