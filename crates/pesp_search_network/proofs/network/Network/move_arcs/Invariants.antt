-- The arcs before this one are moved.
use Rattle.std.proofs.Common.{◌≡◌, ℕ, List, length, take}
use Rattle.pesp_search_network.specs.Prices.{AreExchanged}
use Rattle.pesp_search_network.specs.Shifts.{lifted}
use Rattle.pesp_search_network.proofs.network.Network.move_arcs.Given as goal

abbrev pub invariant-loop-index : goal.invariant-loop-index
invariant-loop-index l = record {
  exchanged : (reduced : List ℕ) → AreExchanged l.self.period 0 (take l.index l.self.arcs) (lifted l.self.period l.shifts reduced) l.reduced.arcs reduced;
  count : length l.reduced.arcs ≡ l.index;
  same : l.reduced ≡ record l.fn.reduced { arcs = l.reduced.arcs };
}
