-- What is left to be seen decides of all.
use Rattle.std.proofs.Common.{◌≤◌, drop}
use Rattle.pesp_search_network.specs.Tied.{AreAscending}
use Rattle.pesp_search_network.proofs.presolve.clusters.are_ascending.Given as goal

abbrev pub invariant-loop-shift : goal.invariant-loop-shift
invariant-loop-shift l = record {
  rest : AreAscending l.seen (drop l.shift-index l.shifts) → AreAscending 0 l.shifts;
  few : l.seen ≤ l.shift-index;
}
