-- The last step gives the last of the residues that are left.
use Rattle.std.proofs.Common.{rules, length, length-append, ap, ◌∙◌, sym}
use Rattle.pesp_base.proofs.ResidueLaws.{residues_left-last}
use Rattle.pesp_base.proofs.residues.ResiduesDoubleEndedIterator.next_back.Goals as goal

pub returns-clause-steps : goal.returns-clause-steps
returns-clause-steps c =
    let step = c.in_ok-step.ensures.steps in
    sym c.self.view_is ∙ residues_left-last _ _ _ _ _ _ _ _ _ step.1.0 c.residue_at.ensures step.1.1 step.1.2 step.0

pub returns-clause-goes : goal.returns-clause-goes
returns-clause-goes c = let fewer = simp length-append at (ap length (returns-clause-steps c)) in search rules
