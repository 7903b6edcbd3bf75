-- Found by search, and named so that a wrong body is refused here at once.
use Rattle.std.proofs.Common.{rules}
use Rattle.pesp_shell_commands.proofs.name.find_name.Goals as goal

pub first_named-requires : goal.first_named-requires
first_named-requires c = search rules
