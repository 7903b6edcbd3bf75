-- The events are tied.
use Rattle.pesp_search_network.specs.Tied.{AreTied}
use Rattle.pesp_search_network.proofs.network.Network.tie_forwards.Given as goal

abbrev pub invariant-loop-index : goal.invariant-loop-index
invariant-loop-index l = AreTied l.self l.ties
