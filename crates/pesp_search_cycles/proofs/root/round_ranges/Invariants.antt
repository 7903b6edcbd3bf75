-- Each walk so far has its range.
use Rattle.std.proofs.Common.{◌≡◌, ℕ, ◌<◌, ◌≤◌, List, length, get_or}
use Rattle.pesp_search_cycles.specs.Maps.{numbers_of}
use Rattle.pesp_search_cycles.specs.Ranges.{AreIn, IsIn, no_range, width}
use Rattle.pesp_search_cycles.specs.Walks.{Path, no_path, round, widths}
use Rattle.pesp_search_cycles.proofs.root.round_ranges.Given as goal

abbrev pub invariant-loop-index : goal.invariant-loop-index
invariant-loop-index l = record {
  long : length l.ranges.items ≡ l.index;
  each : (k : ℕ) → k < l.index → (xs : List ℕ) → AreIn l.numbers (numbers_of l.cycles.network xs) → IsIn (get_or l.ranges.items k no_range) (round l.cycles.network.arcs (numbers_of l.cycles.network xs) (get_or l.cycles.walks k no_path));
  narrow : (k : ℕ) → k < l.index → (walk : Path) → walk ≡ get_or l.cycles.walks k no_path → walk.from ≡ walk.to → width (get_or l.ranges.items k no_range) ≤ widths l.numbers walk.steps;
}
