-- What is held after what was held was taken, and no call failed; where what was held told its front, nothing was taken.
use Rattle.std.proofs.Common.{ℕ, ◌≡◌, ◌+◌, ◌-◌, List, ◌++◌, length}
use Rattle.std.specs.Io.KnownBytes.{Consumes}
use Rattle.pesp_shell_io.specs.Fronts.{IsUnended}
use Rattle.pesp_shell_io.specs.declared.limits.TheConstants.{LONGEST_LINE}
use Rattle.pesp_shell_io.proofs.line_reader.LineReader.look.Given as goal

abbrev pub invariant-pieces : goal.invariant-pieces
invariant-pieces g l = record {
  taken : (bytes : List ℕ) × Consumes (g.R.ByteSource.left l.fn.source) (g.R.ByteSource.left l.source) bytes × (l.self ≡ l.fn.self ++ bytes);
  failure : g.R.ByteSource.failed l.source ≡ g.R.ByteSource.failed l.fn.source;
  known : ¬ IsUnended l.fn.self → (l.self ≡ l.fn.self) × (l.source ≡ l.fn.source);
}

abbrev pub decreases-pieces : goal.decreases-pieces
decreases-pieces g l = LONGEST_LINE + 1 - length l.self
