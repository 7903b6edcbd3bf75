-- One row more adds its line.
use Rattle.std.proofs.Common.{◌++◌, ◌∷◌, [], length, ap, ◌∙◌, codes, decimal}
use Rattle.pesp_shell_replies.specs.Replies.{tension_line}
use Rattle.pesp_shell_replies.proofs.Written.{lines_more}
use Rattle.pesp_shell_replies.proofs.texts.put_tensions.Goals as goal

pub loop-row-preserved : goal.loop-row-preserved
loop-row-preserved c =
    c.in_ok-put_tension.ensures ∙ ap (λ ys. ys ++ (tension_line c.row-item.result ++ 10 ∷ [])) c.loop-row.invariant
    ∙ lines_more c.args.text.now.items (codes "tensions " ++ decimal (length c.args.rows.now) ++ 10 ∷ []) tension_line c.args.rows.now c.loop-row.row-index c.row-item.result c.loop-row-test.true c.row-item.is
