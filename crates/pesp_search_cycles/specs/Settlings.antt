-- Searches for the first map of least cost that stand still.
use Rattle.std.specs.Prelude.{◌≡◌, ℕ, ◌+◌, ◌<◌, ◌≤◌, ◌^◌, ⊤, All}
use Rattle.pesp_search_least.specs.declared.outcome.First.{First}
use Rattle.pesp_search_least.specs.declared.outcome.First.TheVariants.{Done, Spent}
use Rattle.pesp_search_least.specs.Order.{IsSettled}
use Rattle.pesp_search_least.specs.Reached.{AreEqual}
use Rattle.pesp_search_least.specs.Sums.{InSome, IsCut, IsLeast}
use Rattle.pesp_search_network.specs.Arcs.{IsCosted}
use Rattle.pesp_search_cycles.specs.declared.leaves.Leaves.{Leaves}
use Rattle.pesp_search_cycles.specs.declared.settling.Known.{Known}
use Rattle.pesp_search_cycles.specs.declared.settling.Known.TheVariants.{Nothing, Open, Closed}
use Rattle.pesp_search_cycles.specs.declared.settling.Settling.{Settling}
use Rattle.pesp_search_cycles.specs.Maps.{AreBoxes, IsSummed, Net}

-- boxes of these cycles, in which each map is that costs so much at most
abbrev pub AreLeaves : Net → ℕ → Leaves → Type 0
AreLeaves N cost leaves = All (AreBoxes N) leaves.boxes.items × IsCut (cost + 1) (IsCosted N.network) (InSome (IsSummed N) leaves.boxes.items)

abbrev pub IsKnown : Net → ℕ → Known → Type 0
IsKnown N cost Nothing = ⊤
IsKnown N cost (Open leaves) = AreLeaves N cost leaves
IsKnown N cost (Closed leaves) = AreLeaves N cost leaves

-- there are no leaves that are gone on with no more
abbrev pub IsUnclosed : Known → Type 0
IsUnclosed Nothing = ⊤
IsUnclosed (Open leaves) = ⊤
IsUnclosed (Closed leaves) = ⊥

-- the best is a map of least cost, settled at events that there are, and what is known has all of these maps
pub record IsSettling (N : Net) (s : Settling) : Type 0 where
  pub least : IsLeast (IsCosted N.network) s.best
  pub settled : IsSettled (IsCosted N.network) s.settled s.best
  pub events : s.settled ≤ N.network.events
  pub room : s.best.cost + 1 < 2 ^ 64
  pub known : IsKnown N s.best.cost s.known

-- it is told as it stands
abbrev pub IsTold : Settling → First → Type 0
IsTold s (Done candidate) = ⊥
IsTold s (Spent candidate settled) = AreEqual s.best candidate × (settled ≡ s.settled)

-- it stops before the end
abbrev pub IsUnsettled : First → Type 0
IsUnsettled (Done candidate) = ⊥
IsUnsettled (Spent candidate settled) = ⊤
