-- Networks that are searched in the place of others: their maps are the same up to shifts, at costs in proportion.
use Rattle.std.specs.Prelude.{◌≡◌, ℕ, ◌+◌, ◌*◌, ◌<◌, List, Option, Some, None}
use Rattle.pesp_search_least.specs.Order.{Precedes}
use Rattle.pesp_search_network.specs.Arcs.{Arcs, IsCosted}
use Rattle.pesp_search_network.specs.declared.presolve.reduction.Reduction.{Reduction}
use Rattle.pesp_search_network.specs.Shifts.{lifted}

-- the map is that of one of the reduced network, at a cost in proportion
pub record IsLift (M : Arcs) (fixed factor : ℕ) (lift : List ℕ → List ℕ) (of_map : List ℕ) (cost : ℕ) : Type 0 where
  pub reduced : List ℕ
  pub part : ℕ
  pub has : IsCosted M reduced part
  pub is : of_map ≡ lift reduced
  pub costs : cost ≡ fixed + factor * part

-- the maps of both networks that have a cost are one another's, at costs in proportion, and none comes before one that it came after
pub record IsReduced (N M : Arcs) (fixed factor : ℕ) (lift : List ℕ → List ℕ) : Type 0 where
  pub some : 0 < factor
  pub down : (of_map : List ℕ) (cost : ℕ) → IsCosted N of_map cost → IsLift M fixed factor lift of_map cost
  pub up : (reduced : List ℕ) (part : ℕ) → IsCosted M reduced part → IsCosted N (lift reduced) (fixed + factor * part)
  pub order : (one other : List ℕ) (part rest : ℕ) → IsCosted M one part → IsCosted M other rest → Precedes (lift one) (lift other) → Precedes one other

-- the network that is searched, and how its maps and costs are those of the other
abbrev pub IsReduction : Arcs → Reduction → Type 0
IsReduction N r = IsReduced N r.network r.fixed r.factor (lifted r.network.period r.shifts.items)

-- a network that is searched in its place, or none, where no map has a cost
abbrev pub IsPresolved : Arcs → Option Reduction → Type 0
IsPresolved N None = (of_map : List ℕ) (cost : ℕ) → IsCosted N of_map cost → ⊥
IsPresolved N (Some r) = IsReduction N r
