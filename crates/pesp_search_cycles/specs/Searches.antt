-- What is seen of searches that stand still.
use Rattle.std.specs.Prelude.{ℕ}
use Rattle.pesp_search_network.specs.Arcs.{Arcs}

-- which network is searched, for what costs less than the cap
pub record LeastStanding : Type 0 where
  pub network : Arcs
  pub cap : ℕ

-- which network is searched, for the first of the maps that cost so much
pub record FirstStanding : Type 0 where
  pub network : Arcs
  pub cost : ℕ
