-- Those before the next event are in front of the room.
use Rattle.std.proofs.Common.{map}
use Rattle.pesp_instance.specs.Network.{event_ids}
use Rattle.pesp_embedded.proofs.Fronts.{IsFilling}
use Rattle.pesp_embedded.proofs.lists.put_events.Given as goal

abbrev pub invariant-loop-event : goal.invariant-loop-event
invariant-loop-event l = IsFilling (event_ids l.instance) (map (λ e. e.id) l.event-iterator) l.initial.room l.room l.place
