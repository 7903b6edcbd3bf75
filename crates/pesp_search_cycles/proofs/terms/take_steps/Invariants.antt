-- What is left of the steps is still to be taken.
use Rattle.std.proofs.Common.{◌≡◌, ℕ, List, ◌+ℤ◌, ◌-ℤ◌, ◌*ℤ◌, drop, length}
use Rattle.pesp_search_cycles.specs.Terms.{value}
use Rattle.pesp_search_cycles.specs.Walks.{times}
use Rattle.pesp_search_cycles.proofs.terms.take_steps.Given as goal

abbrev pub invariant-loop-step : goal.invariant-loop-step
invariant-loop-step l = record {
  long : length l.rates ≡ length l.initial.rates;
  taken : (zs : List ℕ) → length zs ≡ length l.initial.rates → value l.less l.rates zs ≡ (value l.sum l.initial.rates zs -ℤ l.multiplier *ℤ times l.arcs zs l.steps) +ℤ l.multiplier *ℤ times l.arcs zs (drop l.step-index l.steps);
}
