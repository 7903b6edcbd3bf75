-- Those before the next event are in front of the room.
use Rattle.std.proofs.Common.{map}
use Rattle.pesp_instance.specs.Network.{event_ids}
use Rattle.pesp_embedded.specs.Numbers.{time_or_none}
use Rattle.pesp_embedded.proofs.Fronts.{IsFilling}
use Rattle.pesp_embedded.proofs.lists.put_times.Given as goal

abbrev pub invariant-loop-event : goal.invariant-loop-event
invariant-loop-event l = IsFilling (map (time_or_none l.times) (event_ids l.instance)) (map (time_or_none l.times) (map (λ e. e.id) l.event-iterator)) l.initial.room l.room l.place
