-- Each number so far is in its range.
use Rattle.std.proofs.Common.{ℕ, ◌<◌, pos, get_or}
use Rattle.pesp_search_cycles.specs.Ranges.{IsIn, no_range}
use Rattle.pesp_search_cycles.proofs.admitted.are_in.Given as goal

abbrev pub invariant-loop-index : goal.invariant-loop-index
invariant-loop-index l = (k : ℕ) → k < l.index → IsIn (get_or l.ranges k no_range) (pos (get_or l.numbers k 0))
