-- Each step of the argument adds what its rule has more.
use Rattle.std.proofs.Common.{rules}
use Rattle.pesp_shell.proofs.options.period_option.Goals as goal

pub returns-clause-rule : goal.returns-clause-rule
returns-clause-rule c = search rules
