-- The sum so far, and the products that are left.
use Rattle.std.proofs.Common.{ℕ, List, ◌+ℤ◌, ◌≤ℤ◌, drop}
use Rattle.pesp_search_cycles.specs.Ranges.{AreIn}
use Rattle.pesp_search_cycles.specs.Terms.{products, value}
use Rattle.pesp_search_cycles.proofs.terms.settle.Given as goal

abbrev pub invariant-loop-index : goal.invariant-loop-index
invariant-loop-index l =
    (ys : List ℕ) → AreIn l.ranges ys → (l.least +ℤ products (drop l.index l.rates) (drop l.index ys)) ≤ℤ value l.sum l.rates ys
