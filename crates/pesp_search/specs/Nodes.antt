-- The nodes at which a search stands: times for the first events, the path, and the least time yet to be tried at the next one.
use Rattle.std.specs.Prelude.{◌≡◌, ℕ, zero, suc, ◌+◌, ◌<◌, ◌≤◌, ◌⊎◌, ◌&&◌, IsTrue, is_some, if◌then◌else◌, List, [], ◌∷◌, ◌++◌, length, slice_index, sum_by, All, Option, MatchOption}
use Rattle.std.specs.List.{Contains}
use Rattle.pesp_base.specs.declared.activity.Activity.{Activity}
use Rattle.pesp_base.specs.Tensions.{IsMet}
use Rattle.pesp_instance.specs.Network.{Network, admits, event_ids, has_event}
use Rattle.pesp_domains.specs.declared.pair.Pair.{Pair}
use Rattle.pesp_domains.specs.Domains.{InDomains}
use Rattle.pesp_tension.specs.Answers.{cost_in}
use Rattle.pesp_tension.specs.Timetables.{time_of}
use Rattle.pesp_search.specs.declared.steps.Step.{Step}
use Rattle.pesp_search.specs.declared.steps.Step.TheVariants.{Leaf, Descend, Backtrack}
use Rattle.pesp_search.specs.Paths.{InNext, IsDeadEnd, at, pairs_of, timetable_of}
use Rattle.pesp_search.specs.Tree.{IsSize, IsSumFrom, IsTreeSize}

-- ---- lists of times

-- a time below the period for each event, with which each activity is met and each time is in its event's window
pub record IsFull (I : Network) (times : List ℕ) : Type 0 where
  pub events : length times ≡ length (event_ids I)
  pub below : All (λ t. t < I.period) times
  pub met : (a : Activity) → Contains I.activities a → IsMet I.period a.span (at I times a.from) (at I times a.to)
  pub window : (e : ℕ) → IsTrue (has_event I e) → IsTrue (admits I e (at I times e))

-- the times come before the node, in the order by the first event at which two differ
abbrev pub Before : List ℕ → List ℕ → ℕ → Type 0
Before [] path from = ⊥
Before (t ∷ times) [] from = t < from
Before (t ∷ times) (x ∷ path) from = (t < x) ⊎ ((t ≡ x) × Before times path from)

-- the times begin with those of the path
abbrev pub Extends : List ℕ → List ℕ → Type 0
Extends times [] = Unit {0}
Extends [] (x ∷ path) = ⊥
Extends (t ∷ times) (x ∷ path) = (t ≡ x) × Extends times path

-- ---- residues that are left

-- each event has a residue left under the pushed pairs
abbrev pub HasEach : Network → List Pair → Type 0
HasEach I pushes = (e : ℕ) → IsTrue (has_event I e) → (r : ℕ) × InDomains I pushes e r

-- the event has no residue left from this one on
abbrev pub IsEmptyFrom : Network → List Pair → ℕ → ℕ → Type 0
IsEmptyFrom I pushes e from = (r : ℕ) → from ≤ r → InDomains I pushes e r → ⊥

-- r is the event's least residue from this one on
abbrev pub IsLeastFrom : Network → List Pair → ℕ → ℕ → ℕ → Type 0
IsLeastFrom I pushes e from r = (from ≤ r) × InDomains I pushes e r × ((s : ℕ) → from ≤ s → s < r → InDomains I pushes e s → ⊥)

-- that residue, or none where none is left
abbrev pub IsLeastLeft : Network → List Pair → ℕ → ℕ → Option ℕ → Type 0
IsLeastLeft I pushes e from least = MatchOption least (IsEmptyFrom I pushes e from) (IsLeastFrom I pushes e from)

-- ---- what to do at a node, where P holds of each full list of times that may be passed over

-- P holds of each one that extends the path with a time of at least `from` at the next event
pub record IsSpent (P : List ℕ → Type 0) (I : Network) (path : List ℕ) (from : ℕ) : Type 0 where
  pub passes : (times : List ℕ) → IsFull I times → Extends times path → (length path < length times → from ≤ slice_index times (length path)) → P times

-- r is the next residue to try, no event is without one, and P holds of each one that takes an earlier one
pub record IsNext (P : List ℕ → Type 0) (I : Network) (path : List ℕ) (from r : ℕ) : Type 0 where
  pub room : length path < length (event_ids I)
  pub above : from ≤ r
  pub below : r < I.period
  pub inside : InNext I path r
  pub alive : IsDeadEnd I path → ⊥
  pub skips : (times : List ℕ) → IsFull I times → Extends times path → from ≤ slice_index times (length path) → slice_index times (length path) < r → P times

-- the pairs of the path are pushed, and P holds of each full list of times that comes before the node
pub record IsAt (P : List ℕ → Type 0) (I : Network) (pushes : List Pair) (path : List ℕ) (from : ℕ) : Type 0 where
  pub pairs : pushes ≡ pairs_of (event_ids I) path
  pub depth : length path ≤ length (event_ids I)
  pub below : All (λ t. t < I.period) path
  pub small : from ≤ I.period
  pub passed : (times : List ℕ) → IsFull I times → Before times path from → P times

-- nothing, of each list of times
abbrev pub Nothing : List ℕ → Type 0
Nothing times = ⊥

-- ---- costs

-- what all activities cost
abbrev pub full_cost : Network → List ℕ → ℕ
full_cost I times = sum_by (cost_in (timetable_of I times)) I.activities

-- what an activity costs where both its ends have times on the path, and else 0
abbrev pub known_share : Network → List ℕ → Activity → ℕ
known_share I path a =
    if is_some (time_of (timetable_of I path) a.from) && is_some (time_of (timetable_of I path) a.to) then cost_in (timetable_of I path) a else 0

-- what the path is known to cost
abbrev pub known_cost : Network → List ℕ → ℕ
known_cost I path = sum_by (known_share I path) I.activities

-- no residue from this one on is left to try at the next event, or some event has none
abbrev pub IsStuck : Network → List ℕ → ℕ → Type 0
IsStuck I path from = IsDeadEnd I path ⊎ ((r : ℕ) → from ≤ r → InNext I path r → ⊥)

-- what the domains leave to do at a node
abbrev pub IsLeftToDo : Network → List ℕ → ℕ → Step → Type 0
IsLeftToDo I path from Leaf = IsFull I path
IsLeftToDo I path from (Descend r) = IsNext Nothing I path from r
IsLeftToDo I path from Backtrack = IsSpent Nothing I path from × IsStuck I path from

-- ---- nodes that are left

-- n nodes are there from residue r on, at the event next after the path, with so many events without a time after it
abbrev pub IsRest : Network → ℕ → List ℕ → ℕ → ℕ → Type 0
IsRest I free path r n = (residues : ℕ) × (r + residues ≡ I.period) × IsSumFrom (IsSize I free) I path residues r n

-- n nodes below the prefix are left at the node that the path leads to from there: those of later residues, at each event of the path and at the next one
abbrev pub Left : Network → ℕ → List ℕ → List ℕ → ℕ → ℕ → Type 0
Left I zero prefix [] from n = n ≡ 0
Left I (suc free) prefix [] from n = (IsDeadEnd I prefix × (n ≡ 0)) ⊎ IsRest I free prefix from n
Left I zero prefix (x ∷ path) from n = ⊥
Left I (suc free) prefix (x ∷ path) from n = (a : ℕ) × Left I free (prefix ++ x ∷ []) path from a × ((b : ℕ) × IsRest I free prefix (x + 1) b × (n ≡ a + b))

-- the tree has a size, and the nodes so far, with those that are left, are no more
pub record IsCounted (I : Network) (path : List ℕ) (from nodes : ℕ) : Type 0 where
  pub size : ℕ
  pub tree : IsTreeSize I size
  pub left : ℕ
  pub rest : Left I (length (event_ids I)) [] path from left
  pub within : nodes + left ≤ size
