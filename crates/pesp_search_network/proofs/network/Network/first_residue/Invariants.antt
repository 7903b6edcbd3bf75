-- The event may stand at no residue before this one.
use Rattle.std.proofs.Common.{◌≡◌, ℕ, ◌<◌, false}
use Rattle.pesp_search_network.specs.Arcs.{has}
use Rattle.pesp_search_network.proofs.network.Network.first_residue.Given as goal

abbrev pub invariant-loop-residue : goal.invariant-loop-residue
invariant-loop-residue l = (r : ℕ) → r < l.residue → has l.self l.event r ≡ false
