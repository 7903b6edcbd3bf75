-- Each residue of the row so far is between the two.
use Rattle.std.proofs.Common.{ℕ, ◌<◌, ◌≤◌, IsTrue, false, length, get_or}
use Rattle.pesp_search_cycles.proofs.residues.row_range.Given as goal

abbrev pub invariant-loop-index : goal.invariant-loop-index
invariant-loop-index l = record {
  below : l.low ≤ length l.row;
  last : l.high ≤ l.index;
  between : (r : ℕ) → r < l.index → IsTrue (get_or l.row r false) → (l.low ≤ r) × (r ≤ l.high);
}
