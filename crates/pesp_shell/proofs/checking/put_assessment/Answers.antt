-- One reply stands after another.
use Rattle.std.proofs.Common.{◌≡◌, OnOk, subst}
use Rattle.pesp_shell_replies.specs.Replies.{cost_text, tensions_text, violations_text}
use Rattle.pesp_shell.proofs.CheckLemmas.{three_after}
use Rattle.pesp_shell.proofs.checking.put_assessment.Goals as goal

pub returns : goal.returns
returns c =
    let a = c.args.assessment.now in
    subst (λ text. OnOk c.put_cost.result (c.put_cost.new.text.items ≡ text))
    (three_after c.args.text.now.items c.put_tensions.new.text.items c.put_violations.new.text.items (tensions_text a.tensions.items) (violations_text a.violations.items) (cost_text a.cost)
    (rw c.as_slice.ensures.value at c.in_ok-put_tensions.ensures) (rw c.as_slice-2.ensures.value at c.in_ok-put_violations.ensures))
    c.put_cost.ensures
