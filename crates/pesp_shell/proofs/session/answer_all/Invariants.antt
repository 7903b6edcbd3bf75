-- The lines so far are read and answered, what is read besides is held, and no device failed.
use Rattle.std.proofs.Common.{◌≡◌, false}
use Rattle.pesp_shell_replies.specs.Legal.{work_of}
use Rattle.pesp_shell.proofs.SessionLemmas.{Progress}
use Rattle.pesp_shell.proofs.session.answer_all.Given as goal

abbrev pub invariant-loop-done : goal.invariant-loop-done
invariant-loop-done g l =
    Progress (work_of l.fn.bench) (work_of l.bench) (g.R.ByteSource.left l.fn.source) (g.R.ByteSource.left l.source)
    (g.W.ByteSink.written l.fn.sink) (g.W.ByteSink.written l.sink) l.lines l.done
    × (g.R.ByteSource.failed l.source ≡ false)
    × (g.W.ByteSink.failed l.sink ≡ false)
