-- None so far has several numbers.
use Rattle.std.proofs.Common.{ℕ, ◌<◌, ◌≤ℤ◌, get_or}
use Rattle.pesp_search_cycles.specs.Ranges.{no_range}
use Rattle.pesp_search_cycles.proofs.cut.first_wide.Given as goal

abbrev pub invariant-loop-index : goal.invariant-loop-index
invariant-loop-index l = (k : ℕ) → k < l.index → (get_or l.ranges k no_range).high ≤ℤ (get_or l.ranges k no_range).low
