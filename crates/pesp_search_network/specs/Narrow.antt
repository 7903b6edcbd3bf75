-- Networks in which an event may stand at fewer residues.
use Rattle.std.specs.Prelude.{◌≡◌, ◌≢◌, ℕ, ◌<◌, ◌≤◌, false, IsTrue}
use Rattle.pesp_search_network.specs.Arcs.{Arcs, has}

-- the event may not stand at the residues from `low` on and before `high`; all else is as it was
pub record IsNarrowed (event low high : ℕ) (old new : Arcs) : Type 0 where
  pub period : new.period ≡ old.period
  pub events : new.events ≡ old.events
  pub arcs : new.arcs ≡ old.arcs
  pub gone : (r : ℕ) → low ≤ r → r < high → has new event r ≡ false
  pub stay : (v r : ℕ) → r < old.period → (v ≡ event → low ≤ r → r < high → ⊥) → has new v r ≡ has old v r

-- the event may stand at one of the residues at which it could alone, where there was one; all else is as it was
pub record IsHeldFirst (event : ℕ) (old new : Arcs) : Type 0 where
  pub period : new.period ≡ old.period
  pub events : new.events ≡ old.events
  pub arcs : new.arcs ≡ old.arcs
  pub stay : (v r : ℕ) → r < old.period → v ≢ event → has new v r ≡ has old v r
  pub fewer : (r : ℕ) → r < old.period → IsTrue (has new event r) → IsTrue (has old event r)
  pub some : (r : ℕ) → r < old.period → IsTrue (has old event r) → (q : ℕ) × (q < old.period) × IsTrue (has new event q)
  pub only : (q r : ℕ) → q < old.period → r < old.period → IsTrue (has new event q) → IsTrue (has new event r) → q ≡ r
