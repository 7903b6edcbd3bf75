-- What a search has found so far, and what is of no use to it.
use Rattle.std.specs.Prelude.{◌≡◌, ℕ, ◌+◌, ◌<◌, ◌≤◌, List, [], ◌∷◌, ◌++◌, length, Option, Some, None, IfSome, IsSomeAnd, MatchOption}
use Rattle.pesp_instance.specs.Network.{Network, event_ids}
use Rattle.pesp_search.specs.declared.answer.Best.{Best}
use Rattle.pesp_search.specs.declared.incumbent.Incumbent.{Incumbent}
use Rattle.pesp_search.specs.Nodes.{Before, IsFull, full_cost, known_cost}
use Rattle.pesp_search.specs.Paths.{InNext, timetable_of}
use Rattle.pesp_search.specs.Tried.{IsWithin}

-- the times cost at least the limit; with none there are no such times
abbrev pub AtLeast : Network → Option ℕ → List ℕ → Type 0
AtLeast I None times = ⊥
AtLeast I (Some limit) times = limit ≤ full_cost I times

-- what costs this or more is of no use: what was found, or before that what is above the bound
abbrev pub limit_by : Option ℕ → Option ℕ → Option ℕ
limit_by (Some cost) bound = Some cost
limit_by None None = None
limit_by None (Some bound) = Some (bound + 1)

-- that of the incumbent
abbrev pub limit_of : Incumbent → Option ℕ
limit_of incumbent = limit_by incumbent.cost incumbent.bound

-- full times of this cost, within the bound, before which no others cost as little
pub record IsBest (I : Network) (bound : Option ℕ) (times : List ℕ) (cost : ℕ) : Type 0 where
  pub full : IsFull I times
  pub costs : full_cost I times ≡ cost
  pub within : IsWithin bound cost
  pub first : (others : List ℕ) → IsFull I others → Before others times 0 → cost < full_cost I others

-- the times are the best so far, if any are found
pub record IsIncumbent (I : Network) (incumbent : Incumbent) : Type 0 where
  pub long : length incumbent.times.items ≡ length (event_ids I)
  pub best : IfSome incumbent.cost (IsBest I incumbent.bound incumbent.times.items)

-- what is told is what was found, at its cost and as a timetable, or nothing where nothing was
abbrev pub IsTold : Network → Incumbent → Option Best → Type 0
IsTold I incumbent told = MatchOption told (incumbent.cost ≡ None) (λ b. (incumbent.cost ≡ Some b.cost) × (b.times ≡ timetable_of I incumbent.times.items))

-- ---- what is of no use

-- a known cost is of no use: it has come to the limit
abbrev pub IsCut : Option ℕ → ℕ → Type 0
IsCut limit cost = IsSomeAnd limit (λ l. l ≤ cost)

-- each residue of the next event's domain from one on and below another is of no use
abbrev pub AreCut : Network → Option ℕ → List ℕ → ℕ → ℕ → Type 0
AreCut I limit path from to = (s : ℕ) → from ≤ s → s < to → InNext I path s → IsCut limit (known_cost I (path ++ s ∷ []))

-- r is the first one from there on that is of use
pub record IsFirstOfUse (I : Network) (limit : Option ℕ) (path : List ℕ) (from r : ℕ) : Type 0 where
  pub above : from ≤ r
  pub below : r < I.period
  pub inside : InNext I path r
  pub of_use : IfSome limit (λ l. known_cost I (path ++ r ∷ []) < l)
  pub before : AreCut I limit path from r

-- that residue, or none where none is of use
abbrev pub IsNextOfUse : Network → Option ℕ → List ℕ → ℕ → Option ℕ → Type 0
IsNextOfUse I limit path from next = MatchOption next (AreCut I limit path from I.period) (IsFirstOfUse I limit path from)
