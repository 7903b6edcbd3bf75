-- The events before this one have residues of their rows.
use Rattle.std.proofs.Common.{ℕ, ◌<◌, IsTrue, slice_index}
use Rattle.pesp_search_network.specs.Arcs.{has}
use Rattle.pesp_search_network.proofs.network.Network.keeps_rows.Given as goal

abbrev pub invariant-loop-event : goal.invariant-loop-event
invariant-loop-event l = (v : ℕ) → v < l.event → (slice_index l.map v < l.self.period) × IsTrue (has l.self v (slice_index l.map v))
