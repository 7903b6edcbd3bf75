-- What is left of a budget.
use Rattle.std.specs.Prelude.{◌≡◌, ℕ, ◌<◌, ◌≤◌, ◌-◌, min, Option, Some, None, IsSomeAnd}

-- what is left after so many units, where there is a limit
abbrev pub after : Option ℕ → ℕ → Option ℕ
after None units = None
after (Some left) units = Some (left - units)

-- nothing is put back, and no limit comes or goes
abbrev pub OnlySpends : Option ℕ → Option ℕ → Type 0
OnlySpends None new = new ≡ None
OnlySpends (Some left) new = IsSomeAnd new (λ n. n ≤ left)

-- a unit is spent, where there is a limit, and no limit comes or goes
abbrev pub SpendsUnit : Option ℕ → Option ℕ → Type 0
SpendsUnit None new = new ≡ None
SpendsUnit (Some left) new = IsSomeAnd new (λ n. n < left)

-- so many units of what is left, or all of it
abbrev pub part_of : Option ℕ → ℕ → ℕ
part_of None units = units
part_of (Some left) units = min left units
