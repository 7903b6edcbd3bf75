-- A refusal is told; what is found by search is named so that a wrong body is refused here at once.
use Rattle.std.proofs.Common.{rules, ◌≡◌, Ok, Err, IfOk, Some, ap}
use Rattle.pesp_shell_replies.specs.Legal.{Changes, edited_work, work_of}
use Rattle.pesp_shell_replies.specs.Replies.{refusal_text}
use Rattle.pesp_shell_replies.proofs.Refused.{changes_nothing}
use Rattle.pesp_shell_replies.proofs.changes.edit.Goals as goal

pub returns-in-Err-clause-legal : goal.returns-in-Err-clause-legal
returns-in-Err-clause-legal g c =
    let w = work_of c.args.bench.now in
    let next = work_of c.apply.new.self in
    elim c.refusal_reply.result as (λ r. IfOk r (λ text. refusal_text c.in-Err.refusal ≡ Some text.items) → IfOk r (λ text. Changes w (edited_work w c.args.edit.now) text.items next)) [
      | Ok text ↦ λ tells. changes_nothing w next c.args.edit.now c.in-Err.refusal text.items c.in-Err.ensures.refused (ap work_of c.in-Err.ensures.unchanged) tells
      | Err e ↦ λ _. tt
    ] c.refusal_reply.ensures

pub returns-in-Ok-clause-legal : goal.returns-in-Ok-clause-legal
returns-in-Ok-clause-legal g c = search rules
