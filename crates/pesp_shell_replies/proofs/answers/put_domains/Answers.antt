-- The next event is one of the instance, and its line goes after those that are written; at the end they are of all.
use Rattle.std.proofs.Common.{map}
use Rattle.pesp_bench.proofs.Rows.{id_has}
use Rattle.pesp_shell_replies.proofs.DomainLemmas.{over_all, over_more, over_none}
use Rattle.pesp_shell_replies.proofs.answers.put_domains.Goals as goal

pub loop-event-init : goal.loop-event-init
loop-event-init g c = rw (c.into_iter-event-iterator.ensures.into_iter_gives, c.events-event-items.ensures.value, c.instance.ensures) (over_none c.args.bench.now.instance c.args.text.now.items)

pub put_domain-requires-clause-event : goal.put_domain-requires-clause-event
put_domain-requires-clause-event g c =
    id_has c.args.bench.now.instance.events c.loop-event.invariant.events (map (λ e. e.id) c.next.new.self) c.in-Some.event.now.id
    (rw c.in-Some.ensures.steps at c.loop-event.invariant.all)

pub loop-event-preserved : goal.loop-event-preserved
loop-event-preserved g c =
    over_more c.args.bench.now.instance c.in-Some.event.now.id (map (λ e. e.id) c.next.new.self) c.args.text.now.items c.loop-event.text.items c.put_domain.new.text.items
    (rw c.in-Some.ensures.steps at c.loop-event.invariant) c.in_ok-put_domain.ensures

pub returns : goal.returns
returns g c = over_all c.args.bench.now.instance c.args.text.now.items c.loop-event.text.items (rw c.in-None.ensures.steps.0 at c.loop-event.invariant)
