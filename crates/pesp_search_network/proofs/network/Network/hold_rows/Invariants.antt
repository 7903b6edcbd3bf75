-- The rows of the events before this one are held.
use Rattle.std.proofs.Common.{◌≡◌}
use Rattle.pesp_search_network.specs.Tied.{AreRowsHeld}
use Rattle.pesp_search_network.proofs.network.Network.hold_rows.Given as goal

abbrev pub invariant-loop-event : goal.invariant-loop-event
invariant-loop-event l = record {
  held : AreRowsHeld l.self l.shifts l.event l.reduced;
  period : l.reduced.period ≡ l.initial.reduced.period;
  events : l.reduced.events ≡ l.initial.reduced.events;
  arcs : l.reduced.arcs ≡ l.initial.reduced.arcs;
}
