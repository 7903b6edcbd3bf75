-- The sum so far.
use Rattle.std.proofs.Common.{◌≡◌, ℕ, List, ◌≤ℤ◌, length}
use Rattle.pesp_search_cycles.specs.Terms.{products, value}
use Rattle.pesp_search_cycles.specs.Walks.{RoundsAreIn}
use Rattle.pesp_search_cycles.proofs.terms.take_walks.Given as goal

abbrev pub invariant-loop-index : goal.invariant-loop-index
invariant-loop-index l = record {
  long : length l.rates ≡ length l.initial.rates;
  taken : (zs : List ℕ) → length zs ≡ length l.initial.rates → RoundsAreIn l.ranges l.arcs zs l.walks → value l.less l.rates zs ≤ℤ products l.initial.rates zs;
}
