-- The bytes that are gone were written, and no call failed.
use Rattle.std.proofs.Common.{ℕ, ◌≡◌, List, ◌++◌, length}
use Rattle.std.specs.Io.KnownBytes.{Appends}
use Rattle.pesp_shell_io.proofs.writing.put_all.Given as goal

abbrev pub invariant-calls : goal.invariant-calls
invariant-calls g l =
    (gone : List ℕ) × (l.fn.bytes ≡ gone ++ l.rest)
    × Appends (g.W.ByteSink.written l.fn.sink) (g.W.ByteSink.written l.sink) gone
    × (g.W.ByteSink.failed l.sink ≡ g.W.ByteSink.failed l.fn.sink)

abbrev pub decreases-calls : goal.decreases-calls
decreases-calls g l = length l.rest
