-- The lines before those that are left make the instance so far.
use Rattle.std.proofs.Common.{length}
use Rattle.pesp_shell_commands.proofs.ReplayLemmas.{IsReplayedTo}
use Rattle.pesp_shell_commands.proofs.replaying.replay.Given as goal

abbrev pub invariant-lines : goal.invariant-lines
invariant-lines l = IsReplayedTo l.fn.period l.script l.number l.instance l.rest

abbrev pub decreases-lines : goal.decreases-lines
decreases-lines l = length l.rest
