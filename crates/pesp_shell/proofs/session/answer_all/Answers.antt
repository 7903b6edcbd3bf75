-- Each look takes bytes after those that are held; a line more is answered and let go, and each end is one that a run may have.
use Rattle.std.proofs.Common.{◌≡◌, ◌+◌, ◌≤◌, [], ◌∷◌, length, length-take-le, take, drop, Ok, Err, sym, ap, subst, ◌∙◌, arith, rules}
use Rattle.std.proofs.lemmas.List.Elements.{All-cons, All-nil}
use Rattle.pesp_shell_io.specs.Lines.{lines_of, longest_line, most_lines}
use Rattle.pesp_shell_io.proofs.LineLemmas.{line_at_front, lines_of-ended}
use Rattle.pesp_shell_replies.specs.Legal.{work_of}
use Rattle.pesp_shell.specs.Runs.{IsServed, marks}
use Rattle.pesp_shell.specs.Sessions.{MayAnswer}
use Rattle.pesp_shell.proofs.SessionLemmas.{Progress, answered, begun, ended, faulted, finished, looked, too_long, unread}
use Rattle.pesp_shell.proofs.session.answer_all.Goals as goal

pub loop-done-init : goal.loop-done-init
loop-done-init g c = (
  subst (λ held. Progress (work_of c.args.bench.now) (work_of c.args.bench.now) (g.R.ByteSource.left c.args.source.now) (g.R.ByteSource.left c.args.source.now)
      (g.W.ByteSink.written c.args.sink.now) (g.W.ByteSink.written c.args.sink.now) held 0) (sym c.requires.empty)
      (begun (work_of c.args.bench.now) (g.R.ByteSource.left c.args.source.now) (g.W.ByteSink.written c.args.sink.now)),
  c.requires.reader,
  c.requires.writer,
)

pub returns-in-Err : goal.returns-in-Err
returns-in-Err g c =
    let p = looked _ _ _ _ _ _ _ _ (g.R.ByteSource.left c.look.new.source) _ _ c.loop-done.invariant.0 c.look.ensures.taken.1 c.look.ensures.taken.2 in
    let few : c.loop-done.done ≤ most_lines = omega arith in
    unread _ _ _ _ _ _ _ _ (marks (g.R.ByteSource.at_end c.look.new.source) (g.R.ByteSource.failed c.look.new.source) (g.W.ByteSink.failed c.loop-done.sink) (g.W.ByteSink.passed_on c.loop-done.sink)) p
    few c.in-Err.ensures.unended.0 c.in-Err.ensures.failure c.loop-done.invariant.2

pub returns-in-Ok-TooLong : goal.returns-in-Ok-TooLong
returns-in-Ok-TooLong g c =
    let p = looked _ _ _ _ _ _ _ _ (g.R.ByteSource.left c.look.new.source) _ _ c.loop-done.invariant.0 c.look.ensures.taken.1 c.look.ensures.taken.2 in
    let few : c.loop-done.done + 1 ≤ most_lines = omega arith in
    too_long _ _ _ _ _ _ _ _ (marks (g.R.ByteSource.at_end c.look.new.source) (g.R.ByteSource.failed c.look.new.source) (g.W.ByteSink.failed c.loop-done.sink) (g.W.ByteSink.passed_on c.loop-done.sink)) p
    few (rw c.in-Ok-TooLong.field-0-is at c.in-Ok-TooLong.ensures.front) (c.in-Ok-TooLong.ensures.failure ∙ c.loop-done.invariant.1, c.loop-done.invariant.2)

pub returns-in-Ok-Last : goal.returns-in-Ok-Last
returns-in-Ok-Last g c =
    let p = looked _ _ _ _ _ _ _ _ (g.R.ByteSource.left c.look.new.source) _ _ c.loop-done.invariant.0 c.look.ensures.taken.1 c.look.ensures.taken.2 in
    let few : c.loop-done.done + 1 ≤ most_lines = omega arith in
    let end = c.in-Ok-Last.ensures.end c.in-Ok-Last.field-0-is in
    let may : MayAnswer (work_of c.loop-done.bench) (lines_of c.look.new.self) (c.loop-done.done + 1) (work_of c.answer_last.new.bench) (g.W.ByteSink.written c.loop-done.sink)
    (g.W.ByteSink.written c.answer_last.new.sink) (g.W.ByteSink.failed c.answer_last.new.sink) c.answer_last.result = rw c.held-in-Ok-Last.ensures at c.answer_last.ensures.ending in
    finished _ _ _ _ _ _ _ _ (marks (g.R.ByteSource.at_end c.look.new.source) (g.R.ByteSource.failed c.look.new.source) (g.W.ByteSink.failed c.answer_last.new.sink) (g.W.ByteSink.passed_on c.answer_last.new.sink)) p
    (work_of c.answer_last.new.bench) (g.W.ByteSink.written c.answer_last.new.sink) c.answer_last.result few (rw c.in-Ok-Last.field-0-is at c.in-Ok-Last.ensures.front) end.0 end.1
    (c.in-Ok-Last.ensures.failure ∙ c.loop-done.invariant.1) may c.answer_last.ensures.passed

pub returns-in_err-answer-in-Ok-Line : goal.returns-in_err-answer-in-Ok-Line
returns-in_err-answer-in-Ok-Line g c =
    let p = looked _ _ _ _ _ _ _ _ (g.R.ByteSource.left c.look.new.source) _ _ c.loop-done.invariant.0 c.look.ensures.taken.1 c.look.ensures.taken.2 in
    let few : c.loop-done.done + 1 ≤ most_lines = omega arith in
    let held = c.look.new.self in
    let n = c.in-Ok-Line.length in
    let front = rw c.in-Ok-Line.field-0-is at c.in-Ok-Line.ensures.front in
    let same : c.from_residual.result ≡ Err c.in_err-answer-in-Ok-Line.field-0.0 = search rules in
    let may = subst (λ bytes. MayAnswer (work_of c.loop-done.bench) (take n bytes ∷ []) (c.loop-done.done + 1) (work_of c.answer.new.bench) (g.W.ByteSink.written c.loop-done.sink)
    (g.W.ByteSink.written c.answer.new.sink) (g.W.ByteSink.failed c.answer.new.sink) (Err c.in_err-answer-in-Ok-Line.field-0.0))
    c.held.ensures c.in_err-answer-in-Ok-Line.ensures in
    let one : length (take n held ∷ []) ≤ 1 = omega arith in
    let short : length (take n held) ≤ longest_line = omega (arith, length-take-le n held (omega (arith, front.0)), front.3) in
    let m = marks (g.R.ByteSource.at_end c.look.new.source) (g.R.ByteSource.failed c.look.new.source) (g.W.ByteSink.failed c.answer.new.sink) (g.W.ByteSink.passed_on c.answer.new.sink) in
    subst (IsServed (work_of c.args.bench.now) (g.R.ByteSource.left c.args.source.now) (g.R.ByteSource.left c.look.new.source) (g.W.ByteSink.written c.args.sink.now) (g.W.ByteSink.written c.answer.new.sink) m) (sym same)
    (faulted _ _ _ _ _ _ _ _ m p (work_of c.answer.new.bench) (g.W.ByteSink.written c.answer.new.sink) (take n held ∷ []) (lines_of (drop (n + 1) held)) c.in_err-answer-in-Ok-Line.field-0.0
    few (ap lines_of (line_at_front held n front) ∙ lines_of-ended (take n held) (drop (n + 1) held) front.2) one
    (All-cons (λ l. length l ≤ longest_line) (take n held) [] short (All-nil (λ l. length l ≤ longest_line))) (c.in-Ok-Line.ensures.failure ∙ c.loop-done.invariant.1) may)

pub loop-done-preserved : goal.loop-done-preserved
loop-done-preserved g c =
    let p = looked _ _ _ _ _ _ _ _ (g.R.ByteSource.left c.look.new.source) _ _ c.loop-done.invariant.0 c.look.ensures.taken.1 c.look.ensures.taken.2 in
    let held = c.look.new.self in
    let n = c.in-Ok-Line.length in
    let front = rw c.in-Ok-Line.field-0-is at c.in-Ok-Line.ensures.front in
    let may = subst (λ bytes. MayAnswer (work_of c.loop-done.bench) (take n bytes ∷ []) (c.loop-done.done + 1) (work_of c.answer.new.bench) (g.W.ByteSink.written c.loop-done.sink)
    (g.W.ByteSink.written c.answer.new.sink) (g.W.ByteSink.failed c.answer.new.sink) (Ok c.in_ok-answer-in-Ok-Line.field-0))
    c.held.ensures c.in_ok-answer-in-Ok-Line.ensures in
    let short : length (take n held) ≤ longest_line = omega (arith, length-take-le n held (omega (arith, front.0)), front.3) in (
      subst (λ bytes. Progress (work_of c.args.bench.now) (work_of c.answer.new.bench) (g.R.ByteSource.left c.args.source.now) (g.R.ByteSource.left c.look.new.source)
          (g.W.ByteSink.written c.args.sink.now) (g.W.ByteSink.written c.answer.new.sink) bytes (c.loop-done.done + 1)) (sym c.skip.ensures)
          (answered _ _ _ _ _ _ _ _ (work_of c.answer.new.bench) (g.W.ByteSink.written c.answer.new.sink) (take n held) (drop (n + 1) held) (c.loop-done.done + 1) (g.W.ByteSink.failed c.answer.new.sink) p
          (line_at_front held n front) front.2 short may),
      c.in-Ok-Line.ensures.failure ∙ c.loop-done.invariant.1,
      may.0,
    )

pub returns : goal.returns
returns g c =
    let p = looked _ _ _ _ _ _ _ _ (g.R.ByteSource.left c.end.new.source) _ _ c.loop-done.invariant.0 c.end.ensures.taken.1 c.end.ensures.taken.2 in
    let full : c.loop-done.done ≡ most_lines = omega arith in
    ended _ _ _ _ _ _ _ _ (marks (g.R.ByteSource.at_end c.end.new.source) (g.R.ByteSource.failed c.end.new.source) (g.W.ByteSink.failed c.end.new.sink) (g.W.ByteSink.passed_on c.end.new.sink)) p
    (g.W.ByteSink.written c.end.new.sink) c.end.result full c.end.ensures.kept c.end.ensures.ending
