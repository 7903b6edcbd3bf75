-- The limits of numbers and counts, as numbers.
use Rattle.std.specs.Prelude.{ℕ, ◌/◌, min, ℤ, pos, neg_ℤ}

-- ---- periods

abbrev pub least_period : ℕ
least_period = 2

abbrev pub greatest_period : ℕ
greatest_period = 1440

-- ---- events and activities

-- the greatest number of an event or an activity
abbrev pub greatest_number : ℕ
greatest_number = 999999999

abbrev pub greatest_weight : ℕ
greatest_weight = 1000000000

-- the least and the greatest bound of a span
abbrev pub least_bound : ℤ
least_bound = neg_ℤ (pos 1000000)

abbrev pub greatest_bound : ℤ
greatest_bound = pos 1000000

-- ---- counts

-- how many events an instance of this period may have, so that events times period is at most 2,400,000
abbrev pub max_events : ℕ → ℕ
max_events period = min 20000 (2400000 / period)

-- how many activities an instance of this period may have, so that activities times period is at most 12,000,000
abbrev pub max_activities : ℕ → ℕ
max_activities period = min 100000 (12000000 / period)
