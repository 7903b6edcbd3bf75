-- The time so far is in the range, which is as wide as the slacks so far together.
use Rattle.std.proofs.Common.{◌≡◌, ℕ, ◌+◌, ◌≤◌, ℤ, ◌+ℤ◌, List, drop}
use Rattle.pesp_search_cycles.specs.Ranges.{AreIn, IsIn, width}
use Rattle.pesp_search_cycles.specs.Walks.{times, widths}
use Rattle.pesp_search_cycles.proofs.root.time_range.Given as goal

abbrev pub invariant-loop-step : goal.invariant-loop-step
invariant-loop-step l = record {
  inside : (zs : List ℕ) → AreIn l.numbers zs → (z : ℤ) → times l.arcs zs l.steps ≡ z +ℤ times l.arcs zs (drop l.step-index l.steps) → IsIn l.range z;
  narrow : width l.range + widths l.numbers (drop l.step-index l.steps) ≤ widths l.numbers l.steps;
}
