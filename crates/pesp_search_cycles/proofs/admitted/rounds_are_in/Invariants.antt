-- The time of each walk so far is in its range.
use Rattle.std.proofs.Common.{ℕ, ◌<◌, get_or}
use Rattle.pesp_search_cycles.specs.Ranges.{IsIn, no_range}
use Rattle.pesp_search_cycles.specs.Walks.{no_path, round}
use Rattle.pesp_search_cycles.proofs.admitted.rounds_are_in.Given as goal

abbrev pub invariant-loop-index : goal.invariant-loop-index
invariant-loop-index l = (k : ℕ) → k < l.index → IsIn (get_or l.ranges k no_range) (round l.arcs l.numbers (get_or l.walks k no_path))
