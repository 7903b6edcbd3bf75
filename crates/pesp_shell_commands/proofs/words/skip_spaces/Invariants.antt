use Rattle.std.proofs.Common.{◌≡◌, length}
use Rattle.pesp_shell_commands.specs.Words.{words_of}
use Rattle.pesp_shell_commands.proofs.words.skip_spaces.Given as goal

-- what was left out so far has no word
abbrev pub invariant-loop-rest : goal.invariant-loop-rest
invariant-loop-rest l = words_of l.rest ≡ words_of l.text

abbrev pub decreases-loop-rest : goal.decreases-loop-rest
decreases-loop-rest l = length l.rest
