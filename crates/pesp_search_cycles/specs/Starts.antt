-- Boxes to begin a search at: each map that costs little enough is in one of them.
use Rattle.std.specs.Prelude.{ℕ, ◌≤◌, Bool, nat_lt, ◌==◌, List, All}
use Rattle.pesp_search_least.specs.Sums.{InSome, IsLowerBound, Sums}
use Rattle.pesp_search_network.specs.Arcs.{Arcs}
use Rattle.pesp_search_network.specs.Weights.{weighed}
use Rattle.pesp_search_cycles.specs.declared.boxes.Boxes.{Boxes}
use Rattle.pesp_search_cycles.specs.declared.range.Range.{Range}
use Rattle.pesp_search_cycles.specs.Maps.{AreBoxes, IsAmong, IsInside, Net}

-- the map is in the boxes, whatever it costs
abbrev pub IsInBoxes : Net → Boxes → Sums
IsInBoxes N B xs cost = IsInside N B xs

-- the same network, of which only arcs of these parts weigh anything
abbrev pub weighing : Arcs → List ℕ → (ℕ → Bool) → Arcs
weighing A parts are_these = record { period = A.period; events = A.events; arcs = weighed are_these parts A.arcs; rows = A.rows }

-- one part
abbrev pub part_of : Arcs → List ℕ → ℕ → Arcs
part_of A parts part = weighing A parts (λ p. p == part)

-- the parts before it
abbrev pub parts_before : Arcs → List ℕ → ℕ → Arcs
parts_before A parts part = weighing A parts (λ p. nat_lt p part)

-- each map with these residues that costs so much at most is in one of the boxes
abbrev pub AreStarts : Arcs → Net → List Range → ℕ → List Boxes → Type 0
AreStarts A N residues cost starts = (xs : List ℕ) (sum : ℕ) → IsAmong A residues xs sum → sum ≤ cost → InSome (IsInBoxes N) starts xs sum

-- no map of the network costs less, and those that cost as much are in one of the boxes
pub record IsFound (A : Arcs) (N : Net) (residues : List Range) (cost : ℕ) (starts : List Boxes) : Type 0 where
  pub bound : IsLowerBound (IsAmong A residues) cost
  pub kept : AreStarts A N residues cost starts
  pub fit : All (AreBoxes N) starts
