-- The run of the two devices, of which the second begins with nothing written. Named, so that a wrong body is refused here at once.
use Rattle.std.proofs.Common.{Some, false, subst}
use Rattle.pesp_shell.specs.Opening.{files}
use Rattle.pesp_shell.specs.Runs.{IsRun, marks}
use Rattle.pesp_embedded.proofs.answering.run_over.Goals as goal

pub returns : goal.returns
returns c =
    let asked = c.args.asked.now in
    let source = c.run-ended.new.reader in
    let sink = c.run-ended.new.writer in
    let run = subst
    (λ before. IsRun (files asked.period asked.activities.now (Some asked.fixed.now) (Some asked.times.now)) (Some asked.commands.now)
    (Some source.rest.now) (Some before) (Some sink.text.items) (marks source.at_end false sink.failed sink.passed_on) c.run-ended.result)
    c.new.ensures.items c.run-ended.ensures in
    (Some source.rest.now, source.at_end, sink.failed, sink.passed_on, run)
