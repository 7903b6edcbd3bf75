-- No read failed, since after one that did there is no other line.
use Rattle.std.proofs.Common.{◌≡◌, false}
use Rattle.pesp_shell_io.specs.Noted.{has_failed}
use Rattle.pesp_tests_text.proofs.line_reader.told.Given as goal

abbrev pub invariant-lines : goal.invariant-lines
invariant-lines g l = has_failed l.source ≡ false
