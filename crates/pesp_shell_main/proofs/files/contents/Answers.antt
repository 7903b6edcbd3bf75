-- The bytes are those of the path that is given, and none are read where none is.
use Rattle.std.proofs.Common.{rules}
use Rattle.pesp_shell_main.proofs.files.contents.Goals as goal

pub returns-in_ok-read_whole-in-Some-clause-given : goal.returns-in_ok-read_whole-in-Some-clause-given
returns-in_ok-read_whole-in-Some-clause-given g c = rw c.in-Some.is (search rules)

pub returns-in-None-clause-given : goal.returns-in-None-clause-given
returns-in-None-clause-given g c = rw c.in-None.is (search rules)
