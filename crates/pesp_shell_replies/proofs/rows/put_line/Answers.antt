-- A residue of the row goes on with the run, any other ends it, and the last run ends the line.
use Rattle.std.proofs.Common.{◌≡◌, ◌++◌, ◌∷◌, [], ◌∙◌, sym, arith}
use Rattle.pesp_domains.specs.Domains.{holds, residues}
use Rattle.pesp_shell_replies.specs.Replies.{domain_text}
use Rattle.pesp_shell_replies.proofs.SpacedLemmas.{line_ends, run_ends, run_goes_on}
use Rattle.pesp_shell_replies.proofs.rows.put_line.Goals as goal
use Rattle.pesp_shell_replies.proofs.rows.put_line.Goals.{then-not-holds+in_ok-put_run, else-not-holds}

pub loop-residue-preserved : goal.loop-residue-preserved
loop-residue-preserved c =
    elim c.if-not-holds.branch [
      | then-not-holds+in_ok-put_run w ↦ rw (w.text-is, w.first-is) record {
        order = omega arith;
        text = run_ends c.args.text.now.items c.loop-residue.text.items w.put_run.new.text.items c.args.event c.loop-residue.first c.loop-residue.residue (holds c.args.row.now)
            c.loop-residue.invariant.text (sym c.holds.ensures ∙ w.if-not-holds.true) w.in_ok-put_run.ensures;
      }
      | else-not-holds w ↦ rw (w.text-is, w.first-is) record {
        order = omega arith;
        text = run_goes_on c.args.text.now.items c.loop-residue.text.items c.args.event c.loop-residue.first c.loop-residue.residue (holds c.args.row.now)
            c.loop-residue.invariant.order c.loop-residue.invariant.text (sym c.holds.ensures ∙ w.if-not-holds.false);
      }
    ]

pub returns : goal.returns
returns c =
    let ends : c.loop-residue.residue ≡ c.get.result = omega arith in
    let whole : c.put_run-2.new.text.items ++ 10 ∷ [] ≡ c.args.text.now.items ++ domain_text c.args.event (residues c.args.row.now) =
    line_ends c.args.text.now.items c.loop-residue.text.items c.put_run-2.new.text.items c.args.event c.loop-residue.first c.loop-residue.residue c.get.result c.args.row.now
    ends (omega arith) c.loop-residue.invariant.text c.in_ok-put_run-2.ensures in
    rw (← whole) c.put.ensures.text
