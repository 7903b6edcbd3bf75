-- Nothing was held, and nothing more came.
use Rattle.std.proofs.Common.{◌≡◌, [], ap, ◌∙◌, rules}
use Rattle.std.specs.Prelude.{not}
use Rattle.std.proofs.lemmas.List.{nil_from_length}
use Rattle.pesp_shell.specs.Runs.{marks}
use Rattle.pesp_shell.proofs.AnsweringLemmas.{ended_after}
use Rattle.pesp_shell.proofs.answering.end.Goals as goal
use Rattle.std.proofs.Common.{rules}

pub returns-in-Ok-false-clause-ending : goal.returns-in-Ok-false-clause-ending
returns-in-Ok-false-clause-ending g c =
    let none : c.args.lines.now ≡ [] = nil_from_length c.args.lines.now (search rules) in
    let came = c.in-Ok-false.ensures.none c.in-Ok-false.field-0-test in
    ended_after c.fill.new.self (g.R.ByteSource.left c.fill.new.source) (marks (g.R.ByteSource.at_end c.fill.new.source) (g.R.ByteSource.failed c.fill.new.source) (g.W.ByteSink.failed c.finish.new.sink) (g.W.ByteSink.passed_on c.finish.new.sink)) c.finish.result
    (came.0 ∙ none) (c.in-Ok-false.ensures.mark ∙ ap not c.in-Ok-false.field-0-test) came.1 (c.in-Ok-false.ensures.failure ∙ c.requires.reader) c.finish.ensures.ending

pub returns-in-Err-clause-ending : goal.returns-in-Err-clause-ending
returns-in-Err-clause-ending g c =
    let none : c.args.lines.now ≡ [] = nil_from_length c.args.lines.now (search rules) in
    (c.requires.writer, c.in-Err.ensures.failed ∙ none, c.in-Err.ensures.failure)

-- by search, and named so that a wrong body is refused here at once
pub returns-in-Ok-true-clause-ending : goal.returns-in-Ok-true-clause-ending
returns-in-Ok-true-clause-ending g c = search rules
