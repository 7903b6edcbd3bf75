-- Arcs before this one end where they may.
use Rattle.std.proofs.Common.{All, take}
use Rattle.pesp_search_network.specs.Pieces.{StaysIn}
use Rattle.pesp_search_network.proofs.network.Network.is_piece.Given as goal

abbrev pub invariant-loop-index : goal.invariant-loop-index
invariant-loop-index l = All (StaysIn l.self l.cut.inner.items l.cut.joint) (take l.index l.self.arcs)
