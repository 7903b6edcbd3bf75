-- The reply is legal in the work that the session held, and the session holds the next one.
use Rattle.std.proofs.Common.{Some, sym, ap, ◌∙◌}
use Rattle.pesp_shell_replies.specs.Legal.{work_of}
use Rattle.pesp_embedded.specs.Answered.{fronted}
use Rattle.pesp_embedded.specs.Numbers.{told_done}
use Rattle.pesp_embedded.specs.Sessions.{work_in}
use Rattle.pesp_embedded.specs.declared.told.Told.{Told}
use Rattle.pesp_embedded.proofs.SessionLemmas.{goes_on, not_done}
use Rattle.pesp_embedded.proofs.pesp_ask.Goals as goal
use Rattle.pesp_embedded.proofs.pesp_ask.Goals.{in-Ok, in-Err}

pub returns-clause-answered : goal.returns-clause-answered
returns-clause-answered c = elim c.match-ask.branch [
  | in-Ok w ↦ λ done. rw (w.out-is, w.told-is) (record {
    from = work_of c.deref_mut.result.now.bench;
    to = work_of c.ask.new.bench;
    reply = w.in-Ok.reply.items;
    one = w.in-Ok.ensures.one;
    short = w.in-Ok.ensures.short;
    open_before = sym (ap work_in c.in-Some.ensures.kept) ∙ ap (λ k. Some (work_of k.bench)) (sym c.deref_mut.ensures.value);
    open_after = ap work_in c.put.ensures;
    goes_on = goes_on (work_of c.deref_mut.result.now.bench) (work_of c.ask.new.bench) c.args.line.now w.in-Ok.reply.items w.in-Ok.ensures.legal;
    shown = w.put_front.ensures ∙ ap (λ text. fronted text c.args.out.now) w.as_slice.ensures.value;
    tells = w.ended.ensures ∙ ap told_done (w.len.ensures ∙ w.in-Ok.reply.ok.0);
  })
  | in-Err w ↦ λ done. absurd (not_done w.in-Err.fault c.match-ask.told (w.told-is ∙ w.told-in-Err.ensures) done)
]

pub returns-clause-fault : goal.returns-clause-fault
returns-clause-fault c = elim c.match-ask.branch [
  | in-Ok w ↦ λ is_open undone. absurd (undone (ap (λ (told : Told). told.status) (w.told-is ∙ w.ended.ensures)))
  | in-Err w ↦ λ is_open undone. (w.in-Err.fault, w.in-Err.ensures.fault, w.told-is ∙ w.told-in-Err.ensures)
]
