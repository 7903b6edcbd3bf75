-- The row holds the residues so far.
use Rattle.std.proofs.Common.{ℕ, ◌<◌, ◌≤◌, IsTrue}
use Rattle.pesp_domains.specs.Domains.{holds}
use Rattle.pesp_counts_supports.proofs.bringing.lacks_between.Given as goal

abbrev pub invariant-loop-residue : goal.invariant-loop-residue
invariant-loop-residue l =
    record {
      held : (r : ℕ) → l.low ≤ r → r < l.residue → IsTrue (holds l.row r);
    }
