-- The bytes are one line, or none; a failure after its reply is one of writing.
use Rattle.std.proofs.Common.{◌≡◌, ◌<◌, [], ◌∷◌, length, Err, sym, subst, rules}
use Rattle.std.proofs.lemmas.List.{nil_from_length}
use Rattle.pesp_shell_io.specs.Lines.{lines_of}
use Rattle.pesp_shell_io.proofs.LineLemmas.{lines_of-last}
use Rattle.pesp_shell_replies.specs.Legal.{work_of}
use Rattle.pesp_shell.specs.Sessions.{MayAnswer}
use Rattle.pesp_shell.proofs.AnsweringLemmas.{finished_passed, nothing, passed_on}
use Rattle.pesp_shell.proofs.answering.answer_last.Goals as goal

pub returns-then-is_empty-clause-ending : goal.returns-then-is_empty-clause-ending
returns-then-is_empty-clause-ending g c =
    let none : c.args.line.now ≡ [] = nil_from_length c.args.line.now (search rules) in
    let work = work_of c.args.bench.now in
    let written = g.W.ByteSink.written c.args.sink.now in
    let mark = g.W.ByteSink.failed c.finish.new.sink in
    subst (λ bytes. MayAnswer work (lines_of bytes) c.args.number work written (g.W.ByteSink.written c.finish.new.sink) mark c.finish.result) (sym none)
    (passed_on work work [] c.args.number written written (g.W.ByteSink.written c.finish.new.sink) (g.W.ByteSink.failed c.args.sink.now) mark (g.W.ByteSink.passed_on c.finish.new.sink) c.finish.result
    (nothing work c.args.number written (g.W.ByteSink.failed c.args.sink.now) c.requires.writer) c.finish.ensures.kept c.finish.ensures.ending)

pub returns-then-is_empty-clause-passed : goal.returns-then-is_empty-clause-passed
returns-then-is_empty-clause-passed g c =
    finished_passed (g.W.ByteSink.failed c.finish.new.sink) (g.W.ByteSink.passed_on c.finish.new.sink) c.finish.result c.finish.ensures.ending

pub returns-in_err-answer-clause-ending : goal.returns-in_err-answer-clause-ending
returns-in_err-answer-clause-ending g c =
    let some : 0 < length c.args.line.now = search rules in
    let same : c.from_residual.result ≡ Err c.in_err-answer.field-0.0 = search rules in
    rw same (subst (λ lines. MayAnswer (work_of c.args.bench.now) lines c.args.number (work_of c.answer.new.bench) (g.W.ByteSink.written c.args.sink.now)
    (g.W.ByteSink.written c.answer.new.sink) (g.W.ByteSink.failed c.answer.new.sink) (Err c.in_err-answer.field-0.0)) (sym (lines_of-last c.args.line.now c.requires.uncut some)) c.in_err-answer.ensures)

pub returns-clause-ending : goal.returns-clause-ending
returns-clause-ending g c =
    let some : 0 < length c.args.line.now = search rules in
    subst (λ lines. MayAnswer (work_of c.args.bench.now) lines c.args.number (work_of c.answer.new.bench) (g.W.ByteSink.written c.args.sink.now)
    (g.W.ByteSink.written c.finish-2.new.sink) (g.W.ByteSink.failed c.finish-2.new.sink) c.finish-2.result) (sym (lines_of-last c.args.line.now c.requires.uncut some))
    (passed_on (work_of c.args.bench.now) (work_of c.answer.new.bench) (c.args.line.now ∷ []) c.args.number (g.W.ByteSink.written c.args.sink.now) (g.W.ByteSink.written c.answer.new.sink)
    (g.W.ByteSink.written c.finish-2.new.sink) (g.W.ByteSink.failed c.answer.new.sink) (g.W.ByteSink.failed c.finish-2.new.sink) (g.W.ByteSink.passed_on c.finish-2.new.sink) c.finish-2.result
    c.in_ok-answer.ensures c.finish-2.ensures.kept c.finish-2.ensures.ending)

pub returns-clause-passed : goal.returns-clause-passed
returns-clause-passed g c =
    finished_passed (g.W.ByteSink.failed c.finish-2.new.sink) (g.W.ByteSink.passed_on c.finish-2.new.sink) c.finish-2.result c.finish-2.ensures.ending
