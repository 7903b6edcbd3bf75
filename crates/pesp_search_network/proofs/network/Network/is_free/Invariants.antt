-- The event may stand at each residue before this one.
use Rattle.std.proofs.Common.{ℕ, ◌<◌, IsTrue}
use Rattle.pesp_search_network.specs.Arcs.{has}
use Rattle.pesp_search_network.proofs.network.Network.is_free.Given as goal

abbrev pub invariant-loop-residue : goal.invariant-loop-residue
invariant-loop-residue l = (r : ℕ) → r < l.residue → IsTrue (has l.self l.event r)
