-- The events are tied.
use Rattle.pesp_search_network.specs.Tied.{AreTied}
use Rattle.pesp_search_network.proofs.network.Network.ties.Given as goal

abbrev pub invariant-loop-pass : goal.invariant-loop-pass
invariant-loop-pass l = AreTied l.self l.ties.items
