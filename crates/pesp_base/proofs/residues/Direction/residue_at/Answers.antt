-- Downwards a period is added, so that no number below zero is met.
use Rattle.std.proofs.Common.{◌<◌, ◌≤◌, sym, refl, arith}
use Rattle.pesp_base.proofs.ResidueLaws.{residue-below_first}
use Rattle.pesp_base.proofs.residues.Direction.residue_at.Goals as goal
use Rattle.pesp_base.proofs.residues.Direction.residue_at.Goals.{in-Up, in-Down}

pub returns : goal.returns
returns c =
    let some : 0 < c.args.period = omega (arith, c.requires.0) in
    let within : c.args.step ≤ c.args.period = omega (arith, c.requires.1) in
    elim c.match-self.branch [
      | in-Up w ↦ rw (w.number-is, c.get-period.ensures.value, w.in-Up.is) refl
      | in-Down w ↦ rw (w.number-is, c.get-period.ensures.value, w.in-Down.is) (sym (residue-below_first c.args.period c.args.first c.args.step some within))
    ]
