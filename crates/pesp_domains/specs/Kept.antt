-- What a keeper keeps.
use Rattle.std.specs.Prelude.{◌≢◌, ◌≤◌, ℕ, IsTrue, List, length, All, AllPairs}
use Rattle.pesp_instance.specs.Network.{Network, IsNetwork, has_event}
use Rattle.pesp_domains.specs.declared.pair.Pair.{Pair}
use Rattle.pesp_domains.specs.Rows.{Rows, AreRowsOf, has}
use Rattle.pesp_domains.specs.Sweeps.{AreDomains}

-- an instance, the pushed pairs, the last one at the end, and how many were pushed so far
pub record Kept : Type 0 where
  pub network : Network
  pub pushes : List Pair
  pub push_count : ℕ

-- the pushed pairs are of different events of the instance
pub record ArePushed (I : Network) (pushes : List Pair) : Type 0 where
  pub inside : All (λ p. IsTrue (has_event I p.event)) pushes
  pub apart : AllPairs (λ p q. p.event ≢ q.event) pushes

-- the rows are the domains of the instance under the pushed pairs, and there is room for a pushed pair for each event
pub record IsKept (I : Network) (pushes : List Pair) (rows : Rows) (capacity : ℕ) : Type 0 where
  pub network : IsNetwork I
  pub of_events : AreRowsOf I rows
  pub domains : AreDomains I pushes (has rows)
  pub pushed : ArePushed I pushes
  pub room : length I.events ≤ capacity
