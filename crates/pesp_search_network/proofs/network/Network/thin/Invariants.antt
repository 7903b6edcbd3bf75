-- Events on this side are as they were.
use Rattle.pesp_search_network.specs.Pieces.{IsThinned}
use Rattle.pesp_search_network.proofs.network.Network.thin.Given as goal

abbrev pub invariant-loop-event : goal.invariant-loop-event
invariant-loop-event l = IsThinned l.cut.inner.items l.side l.initial.self l.self
