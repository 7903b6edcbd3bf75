-- Events of the piece before this one may stand everywhere.
use Rattle.std.proofs.Common.{ℕ, ◌<◌, IsTrue}
use Rattle.pesp_search_network.specs.Pieces.{IsFree, is_inner}
use Rattle.pesp_search_network.proofs.network.Network.are_free.Given as goal

abbrev pub invariant-loop-event : goal.invariant-loop-event
invariant-loop-event l = (v : ℕ) → v < l.event → IsTrue (is_inner l.cut.inner.items v) → IsFree l.self v
