-- Where memory is wanted, the line has a reply; where writing fails, some first bytes of the whole reply are written.
use Rattle.std.proofs.Common.{◌≡◌, take, refl, subst, rules}
use Rattle.std.proofs.lemmas.Bool.{false≢true}
use Rattle.std.specs.Io.KnownBytes.{Appends}
use Rattle.std.proofs.KnownBytes.{Keeps-refl}
use Rattle.pesp_shell_replies.specs.Legal.{work_of}
use Rattle.pesp_shell.proofs.AnsweringLemmas.{told}
use Rattle.pesp_shell.proofs.answering.answer.Goals as goal

pub returns-in_default : goal.returns-in_default
returns-in_default g c = (c.requires, refl, c.args.line.now, refl, (λ none. absurd (false≢true (c.in_default.ensures.silent none))), Keeps-refl (g.W.ByteSink.written c.args.sink.now))

pub returns : goal.returns
returns g c =
    let whole : c.as_slice.result.now ≡ c.in-Ok.text.items = search rules in
    let (n, appended) = c.in-Err.ensures.err in (
      c.in-Err.ensures.failure,
      work_of c.reply_to_line.new.bench,
      c.in-Ok.text.items,
      n,
      told (work_of c.args.bench.now) (work_of c.reply_to_line.new.bench) c.args.line.now c.in-Ok.text.items c.in-Ok.ensures.legal,
      subst (λ text. Appends (g.W.ByteSink.written c.args.sink.now) (g.W.ByteSink.written c.put_all.new.sink) (take n text)) whole appended,
    )
