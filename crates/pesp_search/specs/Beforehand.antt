-- A timetable that was found before the tree is gone through.
use Rattle.std.specs.Prelude.{ℕ, Bool, true, false, Option, Some, None}
use Rattle.pesp_search.specs.declared.answer.Best.{Best}

-- the bound for the tree: the cost of that timetable, or what was given
abbrev pub least_bound : Option ℕ → Option Best → Option ℕ
least_bound bound None = bound
least_bound bound (Some before) = Some before.cost

-- what is told of the tree: what it found, or that timetable where a stop found nothing
abbrev pub told_best : Bool → Option Best → Option Best → Option Best
told_best false found before = found
told_best true None before = before
told_best true (Some best) before = Some best

-- the lower bound that is told: at the end the cost of the optimum, and else the one from before
abbrev pub told_bound : Bool → Option Best → ℕ → ℕ
told_bound false (Some best) floor = best.cost
told_bound false None floor = floor
told_bound true best floor = floor
