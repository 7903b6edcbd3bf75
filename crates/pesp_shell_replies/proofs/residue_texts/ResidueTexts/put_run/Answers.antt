-- Found by search, and named so that a wrong body is refused here at once.
use Rattle.std.proofs.Common.{rules}
use Rattle.pesp_shell_replies.proofs.residue_texts.ResidueTexts.put_run.Goals as goal

pub returns : goal.returns
returns c = search rules
