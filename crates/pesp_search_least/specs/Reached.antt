-- What a search reaches from where it is: the maps of its open nodes, and the best that it has found.
use Rattle.std.specs.Prelude.{◌≡◌, ℕ, ◌<◌, ◌≤◌, ◌⊎◌, ⊤, List, Option, IfSome, IsSomeAnd}
use Rattle.pesp_search_least.specs.declared.outcome.Candidate.{Candidate}
use Rattle.pesp_search_least.specs.declared.outcome.Outcome.{Outcome}
use Rattle.pesp_search_least.specs.declared.outcome.Outcome.TheVariants.{Found, NoneBelow, Spent}
use Rattle.pesp_search_least.specs.Expansions.{limit_of}
use Rattle.pesp_search_least.specs.Sums.{InSome, IsBelow, IsWithin, Sums}

-- the same map at the same sum
pub record AreEqual (one other : Candidate) : Type 0 where
  pub cost : other.cost ≡ one.cost
  pub map : other.map.items ≡ one.map.items

-- a sum of an open node, or the best at its own
abbrev pub IsReached : {R : Type 0} → (R → Sums) → List R → Option Candidate → Sums
IsReached {R} sums nodes best map sum = InSome sums nodes map sum ⊎ IsSomeAnd best (λ c. (map ≡ c.map.items) × (sum ≡ c.cost))

-- every sum of the root below the limit is in some open node, and these have no others; the best is below the cap
pub record IsUnderway {R : Type 0} (sums : R → Sums) (root : Sums) (nodes : List R) (cap : ℕ) (best : Option Candidate) : Type 0 where
  pub within : IsWithin (InSome sums nodes) root
  pub left : (map : List ℕ) (sum : ℕ) → root map sum → sum < limit_of cap best → InSome sums nodes map sum
  pub found : IfSome best (IsBelow root cap)

-- a search that began with this best and stopped has left nodes with which it can be gone on with, and no worse one
abbrev pub IsLeft : {R : Type 0} → (R → Sums) → Sums → List R → ℕ → Option Candidate → Outcome → Type 0
IsLeft {R} sums root nodes cap start (Found candidate) = ⊤
IsLeft {R} sums root nodes cap start NoneBelow = ⊤
IsLeft {R} sums root nodes cap start (Spent best lower_bound) = IsUnderway sums root nodes cap best × (limit_of cap best ≤ limit_of cap start)
