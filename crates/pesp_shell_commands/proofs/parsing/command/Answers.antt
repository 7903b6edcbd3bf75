-- The words after the name that was found say what all words say.
use Rattle.std.proofs.Common.{ap, ◌∙◌}
use Rattle.pesp_shell_commands.specs.Forms.{as_said}
use Rattle.pesp_shell_commands.specs.Words.{texts}
use Rattle.pesp_shell_commands.proofs.ParseLemmas.{said_after}
use Rattle.pesp_shell_commands.proofs.parsing.command.Goals as goal

pub returns-in-Some : goal.returns-in-Some
returns-in-Some c =
    ap as_said c.command_named.ensures ∙ said_after (texts c.args.words.now) c.in-Some.name c.in-Some.numbers c.in-Some.ensures.numbers c.in-Some.ensures.form
