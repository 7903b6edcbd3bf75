-- The residues before this one are held.
use Rattle.pesp_search_network.specs.Tied.{IsHeldTo}
use Rattle.pesp_search_network.proofs.network.Network.hold_to.Given as goal

abbrev pub invariant-loop-residue : goal.invariant-loop-residue
invariant-loop-residue l = IsHeldTo l.self l.event l.shift l.residue l.initial.reduced l.reduced
