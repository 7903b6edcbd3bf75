-- What is made of the steps so far.
use Rattle.std.proofs.Common.{◌≡◌, ℕ, List, ℤ, ◌+ℤ◌, drop}
use Rattle.pesp_search_cycles.specs.Ranges.{AreIn}
use Rattle.pesp_search_cycles.specs.Terms.{IsMade}
use Rattle.pesp_search_cycles.specs.Walks.{times}
use Rattle.pesp_search_cycles.proofs.flip.of_steps.Given as goal

abbrev pub invariant-loop-index : goal.invariant-loop-index
invariant-loop-index l =
    (zs : List ℕ) → AreIn l.numbers zs → (z : ℤ) → times l.arcs zs l.steps ≡ z +ℤ times l.arcs zs (drop l.index l.steps) → IsMade l.rest.period l.rest.rest l.made zs z
