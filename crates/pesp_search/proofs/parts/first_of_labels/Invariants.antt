-- What is still marked is the first of its label among the indices so far.
use Rattle.std.proofs.Common.{◌≡◌, ℕ, true, false, IsTrue, length, slice_index_or}
use Rattle.pesp_search.specs.Parts.{IsFirst}
use Rattle.pesp_search.proofs.parts.first_of_labels.Given as goal

abbrev pub invariant-loop-index : goal.invariant-loop-index
invariant-loop-index l =
    record {
      long : length l.marks.items ≡ length l.fn.events;
      first : (k : ℕ) → IsTrue (slice_index_or l.marks.items k false) → (l.fn.are_agreed ≡ true) × IsFirst l.fn.instance l.fn.labels l.index k;
    }
