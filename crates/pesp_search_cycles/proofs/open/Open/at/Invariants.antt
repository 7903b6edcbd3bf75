-- The nodes have the maps of the boxes so far.
use Rattle.std.proofs.Common.{take}
use Rattle.pesp_search_cycles.proofs.Opened.{AreOpened}
use Rattle.pesp_search_cycles.proofs.open.Open.at.Given as goal

abbrev pub invariant-loop-index : goal.invariant-loop-index
invariant-loop-index l = AreOpened l.cycles l.residues (take l.index l.starts.boxes.items) l.nodes.items
