-- What is said of the nodes so far.
use Rattle.std.proofs.Common.{◌≤◌, take}
use Rattle.pesp_search_least.specs.Sums.{InSome, IsLowerBound}
use Rattle.pesp_search_least.proofs.search.lowest.Given as goal

abbrev pub invariant-loop-node : goal.invariant-loop-node
invariant-loop-node g l = record {
  bound : IsLowerBound (InSome g.R.Relaxation.sums (take l.node-index l.nodes)) l.lower_bound;
  within : l.lower_bound ≤ l.limit;
}
