-- Where none is told so far, none of the residues so far is lone.
use Rattle.std.proofs.Common.{◌≡◌, ℕ, ◌<◌, false}
use Rattle.pesp_counts_supports.specs.Lone.{is_lone}
use Rattle.pesp_counts_supports.proofs.widths.may_be_lone_byte.Given as goal

abbrev pub invariant-loop-at : goal.invariant-loop-at
invariant-loop-at l = l.any ≡ false → (r : ℕ) → r < l.at → is_lone l.held l.counts 0 r ≡ false
