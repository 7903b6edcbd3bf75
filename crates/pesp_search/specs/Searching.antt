-- A search through the tree: what holds of it between its steps, what a step says, and when it may end.
use Rattle.std.specs.Prelude.{◌≡◌, ℕ, ◌+◌, ◌<◌, ◌≤◌, Bool, true, false, List, [], ◌∷◌, ◌++◌, length, Some, None, IfSome, vec_capacity}
use Rattle.pesp_domains.specs.declared.pair.Pair.{Pair}
use Rattle.pesp_instance.specs.Network.{IsNetwork, Network, event_ids}
use Rattle.pesp_search.specs.declared.steps.Step.{Step}
use Rattle.pesp_search.specs.declared.steps.Step.TheVariants.{Leaf, Descend, Backtrack}
use Rattle.pesp_search.specs.declared.tree_search.TreeSearch.{TreeSearch}
use Rattle.pesp_search.specs.Branch.{IsBranch}
use Rattle.pesp_search.specs.Found.{AtLeast, IsIncumbent, limit_of}
use Rattle.pesp_search.specs.Nodes.{IsAt, IsCounted, IsFull, IsNext, IsSpent}
use Rattle.pesp_search.specs.Optima.{IsBound}
use Rattle.pesp_search.specs.Parts.{AreLeast}
use Rattle.pesp_search.specs.Tree.{IsTreeSize}

-- the search stands at a node, with the pairs of its path pushed: all full times before it cost at least the limit, the incumbent is the best so far, and the nodes counted, with those that are left, are no more than the tree has
pub record IsSearching (I : Network) (pushes : List Pair) (state : TreeSearch) : Type 0 where
  pub network : IsNetwork I
  pub events : state.events.now ≡ event_ids I
  pub least : AreLeast I state.least.items
  pub branch : IsBranch I state.branch.times.items state.branch.cost state.branch.timetable (vec_capacity state.branch.times)
  pub at : IsAt (AtLeast I (limit_of state.incumbent)) I pushes state.branch.times.items state.from
  pub incumbent : IsIncumbent I state.incumbent
  pub counted : IsCounted I state.branch.times.items state.from state.nodes
  pub within : IfSome state.limit (λ l. state.nodes ≤ l)
  pub root : state.nodes ≡ 0 → (state.branch.times.items ≡ []) × (state.from ≡ 0) × (0 < length (event_ids I) → state.incumbent.cost ≡ None)

-- the search goes on, under the same bound and the same limit
pub record GoesOn (I : Network) (pushes : List Pair) (old new : TreeSearch) : Type 0 where
  pub searching : IsSearching I pushes new
  pub bound : new.incumbent.bound ≡ old.incumbent.bound
  pub limit : new.limit ≡ old.limit

-- it stands where it stood, with the same incumbent: the times after the branch alone may be others
pub record IsSameNode (old new : TreeSearch) : Type 0 where
  pub events : new.events ≡ old.events
  pub least : new.least ≡ old.least
  pub times : new.branch.times ≡ old.branch.times
  pub cost : new.branch.cost ≡ old.branch.cost
  pub incumbent : new.incumbent ≡ old.incumbent
  pub next : new.from ≡ old.from
  pub nodes : new.nodes ≡ old.nodes
  pub limit : new.limit ≡ old.limit

-- ---- steps

-- no full times at the node or after it are of use; without a node counted, the tree has none
abbrev pub IsOver : Network → TreeSearch → Type 0
IsOver I state =
    IsSpent (AtLeast I (limit_of state.incumbent)) I state.branch.times.items state.from × (IsBound I state.incumbent.bound → state.nodes ≡ 0 → IsTreeSize I 0)

-- what to do at the node: keep the times of a leaf, go down to the next residue that is of use, or back up
abbrev pub IsStepAt : Network → TreeSearch → Step → Type 0
IsStepAt I state Leaf = IsFull I state.branch.times.items × IfSome (limit_of state.incumbent) (λ l. state.branch.cost < l)
IsStepAt I state (Descend r) = IsNext (AtLeast I (limit_of state.incumbent)) I state.branch.times.items state.from r
IsStepAt I state Backtrack = IsOver I state

-- one time more, and all of the next event's residues yet to be tried
pub record IsStepDown (old new : TreeSearch) (r : ℕ) : Type 0 where
  pub times : new.branch.times.items ≡ old.branch.times.items ++ r ∷ []
  pub next : new.from ≡ 0

-- the last time taken away, and the residues after it yet to be tried
pub record IsStepUp (old new : TreeSearch) : Type 0 where
  pub last : ℕ
  pub times : old.branch.times.items ≡ new.branch.times.items ++ last ∷ []
  pub next : new.from ≡ last + 1

-- ---- the end

-- the search may end: at its limit where a residue is yet to be tried, or where no full times cost less than the limit; without a node counted, the tree then has none
abbrev pub MayEnd : Network → TreeSearch → Bool → Type 0
MayEnd I state true = (state.limit ≡ Some state.nodes) × ((r : ℕ) × IsNext (AtLeast I (limit_of state.incumbent)) I state.branch.times.items state.from r)
MayEnd I state false = ((times : List ℕ) → IsFull I times → AtLeast I (limit_of state.incumbent) times) × (IsBound I state.incumbent.bound → state.nodes ≡ 0 → IsTreeSize I 0)
