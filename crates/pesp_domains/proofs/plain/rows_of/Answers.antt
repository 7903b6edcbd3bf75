-- An event more has its row.
use Rattle.std.proofs.Common.{◌∙◌, subst, Some, replicate, true}
use Rattle.std.specs.List.{Contains}
use Rattle.std.proofs.lemmas.List.Elements.{All-head, All-tail, All-contains_itself}
use Rattle.pesp_domains.specs.Rows.{SetsRow}
use Rattle.pesp_domains.proofs.Opened.{rows_more, rows_none}
use Rattle.pesp_domains.proofs.plain.rows_of.Goals as goal

pub loop-event-init : goal.loop-event-init
loop-event-init c =
    let all = c.into_iter-event-iterator.ensures.into_iter_gives ∙ c.events-event-items.ensures.value in
    record {
      can_next = tt;
      is_finite = tt;
      among = rw all (All-contains_itself c.args.instance.now.events);
      done = rw all (rows_none c.args.instance.now c.new-rows.result c.new-rows.ensures);
    }

pub loop-event-preserved : goal.loop-event-preserved
loop-event-preserved c =
    let I = c.args.instance.now in
    let x = c.in-Some.event.now in
    let rest = c.next.new.self in
    let among = rw c.in-Some.ensures.steps at c.loop-event.invariant.among in
    record {
      can_next = tt;
      is_finite = tt;
      among = All-tail (Contains I.events) x rest among;
      done = rows_more I c.loop-event.rows c.insert.new.self x rest (All-head (Contains I.events) x rest among)
          (subst (λ n. SetsRow x.id (Some (replicate n true)) c.loop-event.rows c.insert.new.self) c.period.ensures.value c.in_ok-insert.ensures.ok) (rw c.in-Some.ensures.steps at c.loop-event.invariant.done);
    }
