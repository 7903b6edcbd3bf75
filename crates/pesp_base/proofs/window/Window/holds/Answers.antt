-- A residue below the period is of the window where it is fewer steps up from the first one than there are residues.
use Rattle.std.proofs.Common.{rules, ◌<◌, IsTrue, ◌↔◌, subst, arith}
use Rattle.pesp_base.specs.Windows.{IsHeld}
use Rattle.pesp_base.proofs.WindowLaws.{held_is}
use Rattle.pesp_base.proofs.window.Window.holds.Goals as goal

pub returns-then-residue-get-clause-held : goal.returns-then-residue-get-clause-held
returns-then-residue-get-clause-held c =
    let some : 0 < c.args.period = omega (arith, c.get.ensures.limits) in
    subst (λ b. IsTrue b ↔ IsHeld c.args.period c.args.self c.args.residue) (search rules) (held_is c.args.period c.args.self c.args.residue some)
