-- The texts begin with the name where the words do.
use Rattle.std.proofs.Common.{◌∙◌}
use Rattle.pesp_shell_commands.proofs.NameLemmas.{begins_texts}
use Rattle.pesp_shell_commands.proofs.name.begin_with.Goals as goal

pub returns-2 : goal.returns-2
returns-2 c = c.starts_with.ensures.value ∙ begins_texts c.args.words.now c.args.own.now
