-- Each event so far has its residues in its range.
use Rattle.std.proofs.Common.{◌≡◌, ℕ, ◌<◌, IsTrue, pos, length, get_or}
use Rattle.pesp_search_network.specs.Arcs.{has}
use Rattle.pesp_search_cycles.specs.Ranges.{IsIn, no_range}
use Rattle.pesp_search_cycles.proofs.residues.residue_ranges.Given as goal

abbrev pub invariant-loop-event : goal.invariant-loop-event
invariant-loop-event l = record {
  long : length l.ranges.items ≡ l.event;
  each : (k : ℕ) → k < l.event → (r : ℕ) → r < l.network.period → IsTrue (has l.network k r) → IsIn (get_or l.ranges.items k no_range) (pos r);
}
