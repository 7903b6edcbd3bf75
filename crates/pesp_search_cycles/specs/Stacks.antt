-- Searches for a least map that stand still.
use Rattle.std.specs.Prelude.{⊤, List, All, Option, Some, None, IfSome}
use Rattle.pesp_search_least.specs.declared.outcome.Candidate.{Candidate}
use Rattle.pesp_search_least.specs.Reached.{AreEqual, IsUnderway}
use Rattle.pesp_search_least.specs.Sums.{IsBelow, IsLowerBound, Sums}
use Rattle.pesp_search_network.specs.Arcs.{Arcs, IsCosted}
use Rattle.pesp_search_cycles.specs.declared.flip.FlipCut.{FlipCut}
use Rattle.pesp_search_cycles.specs.declared.stack.Progress.{Progress}
use Rattle.pesp_search_cycles.specs.declared.stack.Stack.{Stack}
use Rattle.pesp_search_cycles.specs.Maps.{Net}
use Rattle.pesp_search_cycles.specs.Waiting.{IsWaiting, sums_in}
use Rattle.pesp_search_cycles.specs.Walks.{Path}

-- a network, walks and cuts
abbrev pub net_of : Arcs → List Path → List FlipCut → Net
net_of A walks cuts = record { network = A; walks = walks; cuts = cuts }

-- the same map at the same cost, or none as before
abbrev pub AreEqualBests : Option Candidate → Option Candidate → Type 0
AreEqualBests None None = ⊤
AreEqualBests None (Some copy) = ⊥
AreEqualBests (Some best) None = ⊥
AreEqualBests (Some best) (Some copy) = AreEqual best copy

-- no map costs less than the floor, and the best is a map below the cap
pub record IsProgress (sums : Sums) (p : Progress) : Type 0 where
  pub floor : IsLowerBound sums p.limits.floor
  pub found : IfSome p.best (IsBelow sums p.limits.cap)

-- the nodes are of these cycles, and have each map that costs less than the best, or than the cap where there is none; no map costs less than the floor
pub record IsStack (N : Net) (s : Stack) : Type 0 where
  pub nodes : All (IsWaiting N) s.nodes.items
  pub underway : IsUnderway (sums_in N) (IsCosted N.network) s.nodes.items s.progress.limits.cap s.progress.best
  pub floor : IsLowerBound (IsCosted N.network) s.progress.limits.floor
