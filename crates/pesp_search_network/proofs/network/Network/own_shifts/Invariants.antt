-- The events before this one go with themselves.
use Rattle.pesp_search_network.specs.Tied.{AreUntied}
use Rattle.pesp_search_network.proofs.network.Network.own_shifts.Given as goal

abbrev pub invariant-loop-index : goal.invariant-loop-index
invariant-loop-index l = AreUntied l.index l.ties.items
