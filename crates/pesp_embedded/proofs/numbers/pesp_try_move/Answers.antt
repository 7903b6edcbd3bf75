-- What is told of the workbench is told of the session that keeps it.
use Rattle.std.proofs.Common.{subst}
use Rattle.pesp_shell_replies.specs.Legal.{work_of}
use Rattle.pesp_embedded.specs.Sessions.{IsNumber, change_in}
use Rattle.pesp_embedded.specs.declared.kept.Kept.{Kept}
use Rattle.pesp_embedded.proofs.numbers.pesp_try_move.Goals as goal

pub returns-clause-answered : goal.returns-clause-answered
returns-clause-answered c =
    rw (← c.in-Some.ensures.kept)
    (subst (λ (kept : Kept). IsNumber (change_in (work_of kept.bench) c.args.event c.args.time) c.args.change.now c.tell_change.new.change c.tell_change.result) c.deref.ensures c.tell_change.ensures)
