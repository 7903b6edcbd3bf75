-- What is known of an instance where a search ends or stops.
use Rattle.std.specs.Prelude.{◌≡◌, ℕ, ◌≤◌, false, Option, IfSome}
use Rattle.pesp_instance.specs.Network.{Network}
use Rattle.pesp_tension.specs.Answers.{cost_of}
use Rattle.pesp_tension.specs.Timetables.{Times}
use Rattle.pesp_search.specs.declared.answer.Known.{Known}
use Rattle.pesp_search.specs.Optima.{IsMember}
use Rattle.pesp_search.specs.Tried.{IsOutcome}

-- no member costs less
abbrev pub IsFloor : Network → ℕ → Type 0
IsFloor I floor = (m : Times) → IsMember I m → floor ≤ cost_of I m

-- the search ended or stopped with the best that is told, no member costs less than the lower bound, and at the end the optimum costs just that
pub record IsKnown (I : Network) (bound limit : Option ℕ) (known : Known) (nodes : ℕ) : Type 0 where
  pub outcome : IsOutcome I bound limit known.is_stopped known.best nodes
  pub floor : IsFloor I known.lower_bound
  pub exact : known.is_stopped ≡ false → IfSome known.best (λ best. best.cost ≡ known.lower_bound)
