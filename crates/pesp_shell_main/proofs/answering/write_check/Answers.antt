-- Where writing fails, some first bytes of the whole answer are written.
use Rattle.std.proofs.Common.{take, inr, refl, subst}
use Rattle.std.specs.Io.KnownBytes.{Appends}
use Rattle.pesp_shell_main.proofs.answering.write_check.Goals as goal

pub returns-clause-fault : goal.returns-clause-fault
returns-clause-fault g c =
    let (n, appended) = c.in-Err.ensures.err in
    inr (
      refl,
      c.in-Err.ensures.failure,
      c.in_ok-replies.replies.items,
      n,
      c.in_ok-replies.ensures.replies,
      subst (λ text. Appends (g.W.ByteSink.written c.args.sink.now) (g.W.ByteSink.written c.write.new.sink) (take n text)) c.as_slice.ensures.value appended,
    )
