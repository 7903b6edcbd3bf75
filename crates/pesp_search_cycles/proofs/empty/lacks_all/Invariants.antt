-- None of the row's residues so far is in the range.
use Rattle.std.proofs.Common.{ℕ, ◌<◌, IsTrue, false, pos, get_or}
use Rattle.pesp_search_cycles.specs.Ranges.{IsIn}
use Rattle.pesp_search_cycles.proofs.empty.lacks_all.Given as goal

abbrev pub invariant-loop-index : goal.invariant-loop-index
invariant-loop-index l = (r : ℕ) → r < l.index → IsTrue (get_or l.row r false) → IsIn l.range (pos r) → ⊥
