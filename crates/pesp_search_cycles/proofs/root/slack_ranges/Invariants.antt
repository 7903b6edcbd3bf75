-- Each arc so far has its range.
use Rattle.std.proofs.Common.{◌≡◌, ℕ, ◌<◌, IsTrue, List, pos, length, get_or}
use Rattle.pesp_base.specs.Tensions.{is_met, slack_of}
use Rattle.pesp_search_cycles.specs.Ranges.{AreIn, IsIn, no_range}
use Rattle.pesp_search_cycles.specs.Walks.{no_arc}
use Rattle.pesp_search_cycles.proofs.root.slack_ranges.Given as goal

abbrev pub invariant-loop-index : goal.invariant-loop-index
invariant-loop-index l = record {
  long : length l.ranges.items ≡ l.index;
  each : (k : ℕ) → k < l.index → (xs : List ℕ) → AreIn l.residues xs → IsTrue (is_met l.period (get_or l.arcs k no_arc).span (get_or xs (get_or l.arcs k no_arc).from 0) (get_or xs (get_or l.arcs k no_arc).to 0)) → IsIn (get_or l.ranges.items k no_range) (pos (slack_of l.period (get_or l.arcs k no_arc).span (get_or xs (get_or l.arcs k no_arc).from 0) (get_or xs (get_or l.arcs k no_arc).to 0)));
}
