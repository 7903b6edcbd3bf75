-- One row more adds its line.
use Rattle.std.proofs.Common.{◌++◌, ◌∷◌, [], length, ap, ◌∙◌, codes, decimal}
use Rattle.pesp_shell_replies.specs.Replies.{violation_line}
use Rattle.pesp_shell_replies.proofs.Written.{lines_more}
use Rattle.pesp_shell_replies.proofs.texts.put_violations.Goals as goal

pub loop-row-preserved : goal.loop-row-preserved
loop-row-preserved c =
    c.in_ok-put_violation.ensures ∙ ap (λ ys. ys ++ (violation_line c.row-item.result ++ 10 ∷ [])) c.loop-row.invariant
    ∙ lines_more c.args.text.now.items (codes "violations " ++ decimal (length c.args.rows.now) ++ 10 ∷ []) violation_line c.args.rows.now c.loop-row.row-index c.row-item.result c.loop-row-test.true c.row-item.is
