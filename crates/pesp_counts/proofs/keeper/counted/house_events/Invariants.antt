-- Each event that was reached has its place.
use Rattle.std.proofs.Common.{◌≡◌, List, [], ◌++◌, vec_capacity}
use Rattle.pesp_instance.specs.declared.event.Event.{Event}
use Rattle.pesp_counts.specs.Keeping.{AreFor}
use Rattle.pesp_counts_supports.specs.Resting.{HaveRoom}
use Rattle.pesp_counts.proofs.keeper.counted.house_events.Given as goal

abbrev pub invariant-loop-event : goal.invariant-loop-event
invariant-loop-event l = record {
  can_next : (goal.iterator-loop-event).can_next l.event-iterator;
  is_finite : (goal.iterator-loop-event).is_finite l.event-iterator;
  done : (housed : List Event) × (housed ++ l.event-iterator ≡ l.instance.events) × AreFor (record { period = l.instance.period; events = housed; activities = [] }) l.counted.links l.counted.supports;
  room : HaveRoom l.fn.counted.supports (vec_capacity l.fn.counted.back) (vec_capacity l.fn.counted.restored) → HaveRoom l.counted.supports (vec_capacity l.counted.back) (vec_capacity l.counted.restored);
  restored : l.counted.restored.items ≡ l.fn.counted.restored.items;
}
