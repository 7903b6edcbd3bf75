-- Numbers within limits.
use Rattle.std.specs.Prelude.{ℕ, suc, min, ◌||◌, if◌then◌else◌, List, ℤ, pos, negsuc, neg_ℤ, int_lt, Option, Some, None, Result, Ok, Err}
use Rattle.pesp_base.specs.Texts.{number_value}
use Rattle.pesp_base.specs.declared.number.NumberFault.{NumberFault}
use Rattle.pesp_base.specs.declared.number.NumberFault.TheVariants as fault

-- numbers as far from 0 as this are read alike, since every limit is nearer
abbrev pub number_cap : ℕ
number_cap = 10000000000000

-- a number, or the cap with its sign where it is farther from 0
abbrev pub capped : ℤ → ℤ
capped (pos n) = pos (min number_cap n)
capped (negsuc n) = neg_ℤ (pos (min number_cap (suc n)))

-- a number where it is within the limits, or why it is not
abbrev pub within : ℤ → ℤ → Option ℤ → Result ℤ NumberFault
within low high None = Err fault.NotANumber
within low high (Some z) = if int_lt z low || int_lt high z then Err fault.OutOfRange else Ok z

-- the number that a text writes, where it is within the limits
abbrev pub number_in : ℤ → ℤ → List ℕ → Result ℤ NumberFault
number_in low high text = within low high (number_value text)
