-- The arcs of this side before this one.
use Rattle.std.proofs.Common.{◌≡◌, filter, take}
use Rattle.pesp_search_network.specs.Pieces.{is_of}
use Rattle.pesp_search_network.proofs.network.Network.arcs_of.Given as goal

abbrev pub invariant-loop-arc : goal.invariant-loop-arc
invariant-loop-arc l = l.arcs.items ≡ filter (is_of l.cut.inner.items l.side) (take l.arc-index l.arc-items)
