-- Whether a change of a span or of a weight may make a timetable cheaper.
use Rattle.std.specs.Prelude.{ℕ, Bool, false, ◌&&◌, not, nat_lt, int_le}
use Rattle.std.specs.Ordering.{int_eq}
use Rattle.std.specs.Option.{option_map_or}
use Rattle.pesp_base.specs.declared.activity.Activity.{Activity}
use Rattle.pesp_base.specs.Bounds.{Bounds}
use Rattle.pesp_instance.specs.Network.{Network, activity_of}

-- whether there is an activity of the number, and it passes the test
abbrev pub of_activity : Network → ℕ → (Activity → Bool) → Bool
of_activity I n test = option_map_or test (activity_of I n) false

-- whether the span has another lower bound than the activity's, or a larger upper one
abbrev pub is_moved : Network → ℕ → Bounds → Bool
is_moved I n span = of_activity I n (λ a. not (int_eq span.lower a.span.lower && int_le span.upper a.span.upper))

-- whether the weight is smaller than the activity's
abbrev pub is_lighter : Network → ℕ → ℕ → Bool
is_lighter I n weight = of_activity I n (λ a. nat_lt weight a.weight)
