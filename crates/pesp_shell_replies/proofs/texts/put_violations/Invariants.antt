-- The header and the lines of the rows that were gone over are written.
use Rattle.std.proofs.Common.{◌≡◌, ◌++◌, ◌∷◌, [], take, map, length, codes, decimal}
use Rattle.pesp_base.specs.Texts.{words_line, as_lines}
use Rattle.pesp_shell_replies.specs.Replies.{violation_line}
use Rattle.pesp_shell_replies.proofs.texts.put_violations.Given as goal

abbrev pub invariant-loop-row : goal.invariant-loop-row
invariant-loop-row l =
    l.text.items
    ≡ l.fn.text.items ++ as_lines (words_line (codes "violations" ∷ decimal (length l.rows) ∷ []) ∷ map violation_line (take l.row-index l.rows))
