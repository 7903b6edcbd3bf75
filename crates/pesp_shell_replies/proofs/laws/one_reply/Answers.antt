-- What a definition gives once is told once.
use Rattle.pesp_shell_replies.proofs.UniqueLemmas.{replies_are_one}
use Rattle.pesp_shell_replies.proofs.laws.one_reply.Goals as goal

pub returns : goal.returns
returns c = replies_are_one
