-- The network is as it was.
use Rattle.std.proofs.Common.{◌≡◌}
use Rattle.pesp_search_network.proofs.network.Network.imply_clusters.Given as goal

abbrev pub invariant-loop-index : goal.invariant-loop-index
invariant-loop-index l = l.reduced ≡ l.fn.reduced
