-- What is passed on stands after the whole text, which is a front of itself.
use Rattle.std.proofs.Common.{◌≡◌, ℕ, List, Option, Some, None, Result, Ok, Err, length, take, sym, subst, ◌∙◌, OnErr, arith}
use Rattle.std.specs.Prelude.{OnOk}
use Rattle.std.proofs.lemmas.List.{take_all}
use Rattle.std.specs.Io.KnownBytes.{Appends, Keeps}
use Rattle.pesp_shell_io.specs.Devices.{MarksFailure}
use Rattle.pesp_shell_main.proofs.answering.write.Goals as goal

-- what is kept after a text ends with it
kept_after : (before between after : Option (List ℕ)) (text : List ℕ) → Appends before between text → Keeps between after → Appends before after text
kept_after None between after text appends keeps = tt
kept_after (Some xs) None after text appends keeps = absurd appends
kept_after (Some xs) (Some ys) None text appends keeps = absurd keeps
kept_after (Some xs) (Some ys) (Some zs) text appends keeps = keeps ∙ appends

-- what was written is written, however the sink ended
whole_written : {X E : Type 0} (r : Result X E) (before after : Option (List ℕ)) (text : List ℕ) → Appends before after text → OnOk r (Appends before after text)
whole_written (Ok x) before after text is = is
whole_written (Err e) before after text is = tt

front_written : {X E : Type 0} (r : Result X E) (before after : Option (List ℕ)) (text : List ℕ) → (n : ℕ) × Appends before after (take n text) → OnErr r ((n : ℕ) × Appends before after (take n text))
front_written (Ok x) before after text is = tt
front_written (Err e) before after text is = is

pub returns-clause-ok : goal.returns-clause-ok
returns-clause-ok g c =
    whole_written c.finish.result (g.W.ByteSink.written c.args.sink.now) (g.W.ByteSink.written c.finish.new.self) c.args.text.now
    (kept_after (g.W.ByteSink.written c.args.sink.now) (g.W.ByteSink.written c.put_all.new.sink) (g.W.ByteSink.written c.finish.new.self) c.args.text.now c.in_ok-put_all.ensures.ok c.finish.ensures.bytes)

pub returns-clause-err : goal.returns-clause-err
returns-clause-err g c =
    let text = c.args.text.now in
    let whole : take (length text) text ≡ text = take_all (length text) text (omega arith) in
    let before = g.W.ByteSink.written c.args.sink.now in
    let after = g.W.ByteSink.written c.finish.new.self in
    let all : Appends before after text = kept_after before (g.W.ByteSink.written c.put_all.new.sink) after text c.in_ok-put_all.ensures.ok c.finish.ensures.bytes in
    front_written c.finish.result before after text (length text, subst (Appends before after) (sym whole) all)

pub returns-clause-failure : goal.returns-clause-failure
returns-clause-failure g c =
    subst (λ mark. MarksFailure c.finish.result mark (g.W.ByteSink.failed c.finish.new.self)) c.in_ok-put_all.ensures.failure c.finish.ensures.failure
