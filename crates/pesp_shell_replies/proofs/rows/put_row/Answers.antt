-- A residue of the row stands after those before it, and no other does.
use Rattle.std.proofs.Common.{◌∙◌, sym, refl}
use Rattle.pesp_domains.specs.Domains.{holds}
use Rattle.pesp_shell_replies.proofs.Written.{row_more, row_same}
use Rattle.pesp_shell_replies.proofs.rows.put_row.Goals as goal
use Rattle.pesp_shell_replies.proofs.rows.put_row.Goals.{then-holds+in_ok-put_residue, else-holds}

pub loop-residue-preserved : goal.loop-residue-preserved
loop-residue-preserved c =
    elim c.if-holds.branch [
      | then-holds+in_ok-put_residue w ↦ rw w.text-is
          (row_more c.args.text.now.items c.loop-residue.text.items w.put_residue.new.text.items c.args.event c.loop-residue.residue (holds c.args.row.now) c.loop-residue.invariant (sym c.holds.ensures ∙ w.if-holds.true) w.in_ok-put_residue.ensures)
      | else-holds w ↦ rw w.text-is
          (row_same c.args.text.now.items c.loop-residue.text.items c.loop-residue.text.items c.args.event c.loop-residue.residue (holds c.args.row.now) c.loop-residue.invariant (sym c.holds.ensures ∙ w.if-holds.false) refl)
    ]
