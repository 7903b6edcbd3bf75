-- Activities for the examples by computation.
use Rattle.std.proofs.Common.{ℕ, ℤ, pos}
use Rattle.pesp_base.specs.declared.activity.Activity.{Activity}

-- an activity, in the order of a file's row
abbrev pub signed_arc : ℕ → ℕ → ℕ → ℤ → ℤ → ℕ → Activity
signed_arc id from to lower upper weight = record { id = id; from = from; to = to; span = record { lower = lower; upper = upper }; weight = weight }

-- one with bounds that are not negative
abbrev pub arc : ℕ → ℕ → ℕ → ℕ → ℕ → ℕ → Activity
arc id from to lower upper weight = signed_arc id from to (pos lower) (pos upper) weight
