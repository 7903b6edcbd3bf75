-- What a clause sees of a span.
use Rattle.std.specs.Prelude.{ℤ, ◌≤ℤ◌, Bool, ◌||◌, int_lt, if◌then◌else◌, Result, Ok, Err}
use Rattle.pesp_base.specs.Limits.{least_bound, greatest_bound}
use Rattle.pesp_base.specs.declared.span.SpanFault.{SpanFault}
use Rattle.pesp_base.specs.declared.span.SpanFault.TheVariants as fault

-- the least and the greatest tension that an activity may have
pub record Bounds : Type 0 where
  pub lower : ℤ
  pub upper : ℤ

-- both bounds are within the limits, and in order
pub record AreBounds (lower upper : ℤ) : Type 0 where
  pub above_least : least_bound ≤ℤ lower
  pub in_order : lower ≤ℤ upper
  pub below_greatest : upper ≤ℤ greatest_bound

-- whether a bound is outside the limits
abbrev pub is_out : ℤ → Bool
is_out z = int_lt z least_bound || int_lt greatest_bound z

-- the span of two bounds, or the first fault
abbrev pub span_of : ℤ → ℤ → Result Bounds SpanFault
span_of lower upper =
    if is_out lower || is_out upper then Err fault.OutOfRange
    else if int_lt upper lower then Err fault.Crossed
    else Ok (record { lower = lower; upper = upper })
