-- The events before this one are led.
use Rattle.std.proofs.Common.{◌≡◌, vec_len}
use Rattle.pesp_search_network.specs.Tied.{AreLed}
use Rattle.pesp_search_network.proofs.network.Network.clusters.Given as goal

abbrev pub invariant-loop-event : goal.invariant-loop-event
invariant-loop-event l = record {
  count : vec_len l.clusters.shifts ≡ l.event;
  led : AreLed l.self l.event l.clusters.leaders.items l.clusters.shifts.items;
}
