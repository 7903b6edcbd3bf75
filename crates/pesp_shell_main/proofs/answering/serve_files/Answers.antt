-- Where the files open no work, nothing is read or written; and over the work that they open, commands are served.
use Rattle.std.proofs.Common.{◌≡◌, Err, inl, sym, subst, rules}
use Rattle.pesp_shell_replies.specs.Legal.{work_of}
use Rattle.pesp_shell.specs.Runs.{IsRun, marks}
use Rattle.pesp_shell.proofs.SessionLemmas.{not_opened}
use Rattle.pesp_shell_main.specs.Wiring.{files_of}
use Rattle.pesp_shell_main.proofs.answering.serve_files.Goals as goal

pub returns-in_err-bench : goal.returns-in_err-bench
returns-in_err-bench g c =
    let same : c.from_residual.result ≡ Err c.in_err-bench.field-0.0 = search rules in
    let f = files_of c.args.settings.now.period c.args.files in
    let left = g.R.ByteSource.left c.args.source.now in
    let written = g.W.ByteSink.written c.args.sink.now in
    let m = marks (g.R.ByteSource.at_end c.args.source.now) (g.R.ByteSource.failed c.args.source.now) (g.W.ByteSink.failed c.args.sink.now) (g.W.ByteSink.passed_on c.args.sink.now) in
    subst (IsRun f left left written written m) (sym same) (not_opened f left written m c.in_err-bench.field-0.0 (c.requires.reader, c.requires.writer) c.in_err-bench.ensures.fault)

pub returns : goal.returns
returns g c = inl (work_of c.in_ok-bench.bench, c.in_ok-bench.ensures.opening, c.serve.ensures)
