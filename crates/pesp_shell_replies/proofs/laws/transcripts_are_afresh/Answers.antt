-- Line after line: each goes on from the work that the one before left.
use Rattle.pesp_shell_replies.proofs.TranscriptLemmas.{are_afresh}
use Rattle.pesp_shell_replies.proofs.laws.transcripts_are_afresh.Goals as goal

pub returns : goal.returns
returns c = are_afresh
