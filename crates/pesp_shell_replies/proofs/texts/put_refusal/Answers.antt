-- Found by search, and named so that a wrong body is refused here at once; the length, by its own line.
use Rattle.std.proofs.Common.{rules, ◌≡◌, ◌++◌, Ok, Err, OnOk, Some, codes, decimal, sym, ap, ◌∙◌}
use Rattle.pesp_shell_replies.specs.Replies.{appended, refusal_text}
use Rattle.pesp_shell_replies.proofs.texts.put_refusal.Goals as goal

pub returns-in-Memory : goal.returns-in-Memory
returns-in-Memory c = search rules

pub returns-in-LengthOutOfRange : goal.returns-in-LengthOutOfRange
returns-in-LengthOutOfRange c =
    let n = c.in-LengthOutOfRange.length in
    let old = c.args.text.now.items in
    let new = c.put_between-in-LengthOutOfRange.new.text.items in
    let line = codes "refused 13 length " ++ decimal n ++ codes " is out of range\n" in
    let told : refusal_text c.args.refusal ≡ Some line = ap refusal_text c.in-LengthOutOfRange.is in
    let written : OnOk c.put_between-in-LengthOutOfRange.result (new ≡ old ++ line) = rw c.from-in-LengthOutOfRange.ensures at c.put_between-in-LengthOutOfRange.ensures.text in
    elim c.put_between-in-LengthOutOfRange.result as (λ r. OnOk r (new ≡ old ++ line) → OnOk r (appended old (refusal_text c.args.refusal) ≡ Some new)) [
      | Ok x ↦ λ is. ap (appended old) told ∙ ap Some (sym is)
      | Err e ↦ λ _. tt
    ] written
