-- Where the files open no work, nothing is read or written; and over the work that they open, commands are served.
use Rattle.std.proofs.Common.{◌≡◌, Err, inl, sym, subst, rules}
use Rattle.std.specs.Prelude.{option_copied}
use Rattle.pesp_shell_replies.specs.Legal.{work_of}
use Rattle.pesp_shell.specs.Opening.{files}
use Rattle.pesp_shell.specs.Runs.{IsRun, marks}
use Rattle.pesp_shell.proofs.SessionLemmas.{not_opened}
use Rattle.pesp_shell.proofs.session.run.Goals as goal

pub returns-in_err-bench : goal.returns-in_err-bench
returns-in_err-bench g c =
    let same : c.from_residual.result ≡ Err c.in_err-bench.field-0.0 = search rules in
    let m = marks (g.R.ByteSource.at_end c.args.reader.now) (g.R.ByteSource.failed c.args.reader.now) (g.W.ByteSink.failed c.args.writer.now) (g.W.ByteSink.passed_on c.args.writer.now) in
    let f = files c.args.period c.args.activities.now (option_copied c.args.fixed) (option_copied c.args.times) in
    subst (IsRun f (g.R.ByteSource.left c.args.reader.now) (g.R.ByteSource.left c.args.reader.now) (g.W.ByteSink.written c.args.writer.now) (g.W.ByteSink.written c.args.writer.now) m)
    (sym same)
    (not_opened f (g.R.ByteSource.left c.args.reader.now) (g.W.ByteSink.written c.args.writer.now) m c.in_err-bench.field-0.0 (c.requires.reader, c.requires.writer) c.in_err-bench.ensures.fault)

pub returns : goal.returns
returns g c = inl (work_of c.in_ok-bench.bench, c.in_ok-bench.ensures.opening, c.serve.ensures)
