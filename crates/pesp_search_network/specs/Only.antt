-- Events that have one residue alone.
use Rattle.std.specs.Prelude.{◌≡◌, ℕ, ◌<◌, IsTrue}
use Rattle.pesp_search_network.specs.Arcs.{Arcs, has}

-- the event has no other residue
pub record IsOnly (N : Arcs) (event r : ℕ) : Type 0 where
  pub below : r < N.period
  pub only : (s : ℕ) → s < N.period → IsTrue (has N event s) → s ≡ r
