-- Each residue so far is the least number of its range.
use Rattle.std.proofs.Common.{◌≡◌, ℕ, ◌<◌, pos, length, get_or}
use Rattle.pesp_search_cycles.specs.Ranges.{no_range}
use Rattle.pesp_search_cycles.proofs.admitted.only_map.Given as goal

abbrev pub invariant-loop-index : goal.invariant-loop-index
invariant-loop-index l = record {
  long : length l.map.items ≡ l.index;
  each : (k : ℕ) → k < l.index → pos (get_or l.map.items k 0) ≡ (get_or l.ranges k no_range).low;
}
