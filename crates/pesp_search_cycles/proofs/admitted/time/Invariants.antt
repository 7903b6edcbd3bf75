-- The time so far, and that of the steps that are left.
use Rattle.std.proofs.Common.{◌≡◌, ◌+ℤ◌, drop}
use Rattle.pesp_search_cycles.specs.Walks.{times}
use Rattle.pesp_search_cycles.proofs.admitted.time.Given as goal

abbrev pub invariant-loop-step : goal.invariant-loop-step
invariant-loop-step l = l.sum +ℤ times l.arcs l.numbers (drop l.step-index l.steps) ≡ times l.arcs l.numbers l.steps
