use Rattle.std.proofs.Common.{◌≡◌, ◌≤◌, ◌-◌, ◌++◌, length, take}
use Rattle.pesp_shell_commands.specs.Words.{words_of, texts}
use Rattle.pesp_shell_commands.proofs.words.Words.new.Given as goal

-- the words that were taken and those that are left are the words of the line
abbrev pub invariant-loop-count : goal.invariant-loop-count
invariant-loop-count l = (l.count ≤ 9) × (length l.words ≡ 9) × (texts (take l.count l.words) ++ words_of l.rest ≡ words_of l.line)

abbrev pub decreases-loop-count : goal.decreases-loop-count
decreases-loop-count l = 9 - l.count
