-- The numbers of events and activities are within the greatest ones, and each times the period is bounded.
use Rattle.std.proofs.Common.{ℕ, ◌*◌, ◌/◌, ◌≤◌, arith, div-add-mod'}
use Rattle.pesp_base.specs.Limits.{max_activities, max_events}

-- a quotient times what it was divided by is at most the whole
quotient_within : (whole period : ℕ) → (whole / period) * period ≤ whole
quotient_within whole period = omega (arith, div-add-mod' whole period)

-- a smaller factor gives no more
smaller_within : (least quotient whole period : ℕ) → least ≤ quotient → quotient * period ≤ whole → least * period ≤ whole
smaller_within least quotient whole period less within = grind (arith, less, within)

pub few_events : (period : ℕ) → max_events period ≤ 20000
few_events period = omega arith

pub few_activities : (period : ℕ) → max_activities period ≤ 100000
few_activities period = omega arith

pub events_times_period : (period : ℕ) → max_events period * period ≤ 2400000
events_times_period period =
    let less : max_events period ≤ 2400000 / period = omega arith in
    smaller_within (max_events period) (2400000 / period) 2400000 period less (quotient_within 2400000 period)

pub activities_times_period : (period : ℕ) → max_activities period * period ≤ 12000000
activities_times_period period =
    let less : max_activities period ≤ 12000000 / period = omega arith in
    smaller_within (max_activities period) (12000000 / period) 12000000 period less (quotient_within 12000000 period)
