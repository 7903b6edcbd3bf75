-- The residues of the events before this one.
use Rattle.std.proofs.Common.{◌≡◌, take}
use Rattle.pesp_search_network.specs.Shifts.{lifted}
use Rattle.pesp_search_network.proofs.presolve.shift.lifted_map.Given as goal

abbrev pub invariant-loop-shift : goal.invariant-loop-shift
invariant-loop-shift l = l.of_map.items ≡ lifted l.period (take l.shift-index l.shifts) l.map
