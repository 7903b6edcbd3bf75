-- Events of the piece before this one have their residues, turned, and others are as they were.
use Rattle.std.proofs.Common.{◌≡◌, ℕ, ◌+◌, ◌%◌, ◌<◌, IsTrue, false, length, slice_index}
use Rattle.pesp_search_network.specs.Pieces.{is_inner}
use Rattle.pesp_search_network.proofs.separation.Separation.join.Given as goal

abbrev pub invariant-loop-event : goal.invariant-loop-event
invariant-loop-event l = record {
  long : length l.map.items ≡ length l.initial.map.items;
  turned : (v : ℕ) → v < l.event → IsTrue (is_inner l.self.inner.items v) → slice_index l.map.items v ≡ (slice_index l.piece v + l.turn) % l.period;
  stays : (v : ℕ) → is_inner l.self.inner.items v ≡ false → slice_index l.map.items v ≡ slice_index l.initial.map.items v;
}
