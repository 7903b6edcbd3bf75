-- Each branch is that of what is asked for, so what it calls says all.
use Rattle.std.proofs.Common.{◌∙◌, sym}
use Rattle.std.proofs.lemmas.Bool.{false≢true}
use Rattle.pesp_shell_main.proofs.answering.answer_files.Goals as goal

pub returns-then-settings-clause-check : goal.returns-then-settings-clause-check
returns-then-settings-clause-check g c = λ _. c.write_check.ensures.ok

pub returns-then-settings-clause-unchecked : goal.returns-then-settings-clause-unchecked
returns-then-settings-clause-unchecked g c = λ _. c.write_check.ensures.fault

pub returns-then-settings-clause-commands : goal.returns-then-settings-clause-commands
returns-then-settings-clause-commands g c = λ off. absurd (false≢true (sym off ∙ c.if-settings.true))

pub returns-else-settings-clause-check : goal.returns-else-settings-clause-check
returns-else-settings-clause-check g c = λ on. absurd (false≢true (sym c.if-settings.false ∙ on))

pub returns-else-settings-clause-unchecked : goal.returns-else-settings-clause-unchecked
returns-else-settings-clause-unchecked g c = λ on. absurd (false≢true (sym c.if-settings.false ∙ on))

pub returns-else-settings-clause-commands : goal.returns-else-settings-clause-commands
returns-else-settings-clause-commands g c = λ _. c.serve_files.ensures
