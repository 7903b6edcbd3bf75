-- The timetable of a forgotten optimum, or of a search that stopped, as the bound of the next one.
use Rattle.std.specs.Prelude.{◌≡◌, ℕ, Option, IfSome, IsSomeAnd}
use Rattle.pesp_instance.specs.Network.{Network}
use Rattle.pesp_search.specs.Optima.{IsMember}
use Rattle.pesp_tension.specs.Answers.{cost_of}
use Rattle.pesp_tension.specs.Timetables.{Times}

-- the bound is what the candidate costs, which is a member; without a bound nothing is said of it
abbrev pub IsCandidate : Network → Option ℕ → Option Times → Type 0
IsCandidate I bound candidate = IfSome bound (λ cost. IsSomeAnd candidate (λ m. IsMember I m × (cost_of I m ≡ cost)))
