-- The number of the next event goes after those of the events before it.
use Rattle.std.proofs.Common.{◌∙◌, arith, map}
use Rattle.pesp_instance.specs.Network.{event_ids}
use Rattle.pesp_embedded.specs.Numbers.{time_or_none}
use Rattle.pesp_embedded.proofs.Fronts.{begins, goes_on}
use Rattle.pesp_embedded.proofs.lists.put_times.Goals as goal

pub loop-event-init : goal.loop-event-init
loop-event-init c = rw (c.into_iter-event-iterator.ensures.into_iter_gives ∙ c.events-event-items.ensures.value) (begins (map (time_or_none c.args.times.now) (event_ids c.args.instance.now)) c.args.room.now)

pub loop-event-preserved : goal.loop-event-preserved
loop-event-preserved c =
    let before = rw c.in-Some.ensures.steps at c.loop-event.invariant in
    rw (c.unwrap_or.ensures, c.get.ensures.time)
    (goes_on (map (time_or_none c.args.times.now) (event_ids c.args.instance.now)) (map (time_or_none c.args.times.now) (map (λ e. e.id) c.next.new.self)) c.args.room.now c.loop-event.room c.loop-event.place (time_or_none c.args.times.now c.in-Some.event.now.id)
    before (omega (arith, before.fits, c.if-place-room.false, c.loop-event.auto.room)))
