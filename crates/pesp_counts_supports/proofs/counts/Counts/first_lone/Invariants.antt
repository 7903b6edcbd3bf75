-- None of the residues so far is lone.
use Rattle.std.proofs.Common.{◌≡◌, ℕ, ◌<◌, false}
use Rattle.pesp_counts_supports.specs.Lone.{is_lone}
use Rattle.pesp_counts_supports.proofs.counts.Counts.first_lone.Given as goal

abbrev pub invariant-loop-at : goal.invariant-loop-at
invariant-loop-at l = (r : ℕ) → r < l.at → is_lone l.held l.self.values l.from r ≡ false
