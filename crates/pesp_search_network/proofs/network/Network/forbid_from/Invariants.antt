-- The residues before this one are forbidden.
use Rattle.pesp_search_network.specs.Narrow.{IsNarrowed}
use Rattle.pesp_search_network.proofs.network.Network.forbid_from.Given as goal

abbrev pub invariant-loop-residue : goal.invariant-loop-residue
invariant-loop-residue l = IsNarrowed l.event l.low l.residue l.initial.self l.self
