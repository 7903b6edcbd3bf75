-- Nothing changes.
use Rattle.std.proofs.Common.{◌≡◌}
use Rattle.pesp_search.proofs.arcs.imply_domains.Given as goal

abbrev pub invariant-loop-index : goal.invariant-loop-index
invariant-loop-index l = record {
  same : l.network ≡ l.fn.network;
}
