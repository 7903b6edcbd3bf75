-- The sum so far.
use Rattle.std.proofs.Common.{◌≡◌, ℕ, List, All, ◌≤ℤ◌, length}
use Rattle.pesp_search_cycles.specs.Terms.{IsKept, value}
use Rattle.pesp_search_cycles.proofs.terms.take_cuts.Given as goal

abbrev pub invariant-loop-index : goal.invariant-loop-index
invariant-loop-index l = record {
  long : length l.rates ≡ length l.initial.rates;
  taken : (zs : List ℕ) → length zs ≡ length l.initial.rates → All (λ cut. IsKept cut zs) l.cuts → value l.less l.rates zs ≤ℤ value l.sum l.initial.rates zs;
}
