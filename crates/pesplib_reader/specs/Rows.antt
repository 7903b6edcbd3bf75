-- What a row of a file stands for, and the faults that it may have by itself.
use Rattle.std.specs.Prelude.{ℕ, Bool, ◌||◌, not, ◌==◌, int_lt, if◌then◌else◌, is_none, List, [], ◌∷◌, length, ℤ, pos, neg_ℤ, unsigned_abs, slice_index_or, Option, Some, None, unwrap_or}
use Rattle.std.specs.Char.{is_ascii_digit}
use Rattle.std.specs.List.{list_all, list_any, before_first, after_first}
use Rattle.pesp_base.specs.Refusals.{when}
use Rattle.pesp_base.specs.declared.activity.Activity.{Activity}
use Rattle.pesp_base.specs.Limits.{greatest_bound, greatest_number, greatest_weight, least_bound}
use Rattle.pesp_base.specs.Texts.{number_value}
use Rattle.pesplib_reader.specs.declared.fault.FaultKind.{FaultKind}
use Rattle.pesplib_reader.specs.declared.fault.FaultKind.TheVariants as fault

-- the greatest time that a file may hold; the least is as far below 0
abbrev pub greatest_time : ℕ
greatest_time = 1000000000

-- the k-th field, from 1
abbrev pub field : List (List ℕ) → ℕ → List ℕ
field fields k = slice_index_or ([] ∷ fields) k []

-- no number, or a number outside its limits
abbrev pub range_fault : ℕ → ℤ → ℤ → Option ℤ → Option FaultKind
range_fault k low high None = Some (fault.BadNumber k)
range_fault k low high (Some z) = when (int_lt z low || int_lt high z) (fault.OutOfRange k)

-- the fault of the k-th field, whose text is no number or a number outside its limits
abbrev pub number_fault : ℕ → ℤ → ℤ → List ℕ → Option FaultKind
number_fault k low high text = range_fault k low high (number_value text)

-- the number that a text writes, and 0 where it writes none
abbrev pub value : List ℕ → ℤ
value text = unwrap_or (number_value text) (pos 0)

-- the number that a text writes, without a sign
abbrev pub natural : List ℕ → ℕ
natural text = unsigned_abs (value text)

abbrev pub is_point : ℕ → Bool
is_point b = b == 46

-- the text before its first point, all of it where it has none
abbrev pub whole_part : List ℕ → List ℕ
whole_part text = before_first is_point text

-- the text after its first point, nothing where it has none
abbrev pub decimals : List ℕ → List ℕ
decimals text = after_first is_point text

abbrev pub is_not_zero : ℕ → Bool
is_not_zero digit = not (digit == 48)

-- the fault of a weight with these decimals and this number before them
abbrev pub decimal_fault : List ℕ → Option ℤ → Option FaultKind
decimal_fault digits number =
    if not (list_all is_ascii_digit digits) || is_none number then Some (fault.BadNumber 6)
    else if list_any is_not_zero digits then Some fault.FractionalWeight
    else range_fault 6 (pos 0) (pos greatest_weight) number

-- a weight is a number, or a number with a point and zeros after it
unfoldable pub weight_fault : List ℕ → Option FaultKind
weight_fault text = decimal_fault (decimals text) (number_value (whole_part text))

-- the weight that a text writes
abbrev pub weight_value : List ℕ → ℕ
weight_value text = natural (whole_part text)

-- the activity of a row
abbrev pub activity_in : List (List ℕ) → Activity
activity_in fields = record {
  id = natural (field fields 1);
  from = natural (field fields 2);
  to = natural (field fields 3);
  span = record { lower = value (field fields 4); upper = value (field fields 5) };
  weight = weight_value (field fields 6);
}

-- the faults that a row of an activity may have by itself, in order
abbrev pub activity_faults : List (List ℕ) → List (Option FaultKind)
activity_faults fields =
    when (not (length fields == 6)) fault.FieldCount
    ∷ number_fault 1 (pos 0) (pos greatest_number) (field fields 1)
    ∷ number_fault 2 (pos 0) (pos greatest_number) (field fields 2)
    ∷ number_fault 3 (pos 0) (pos greatest_number) (field fields 3)
    ∷ number_fault 4 least_bound greatest_bound (field fields 4)
    ∷ number_fault 5 least_bound greatest_bound (field fields 5)
    ∷ weight_fault (field fields 6)
    ∷ when (int_lt (value (field fields 5)) (value (field fields 4))) fault.Crossed ∷ []

-- the faults that a row of an event and a time may have by itself, in order
abbrev pub time_faults : List (List ℕ) → List (Option FaultKind)
time_faults fields =
    when (not (length fields == 2)) fault.FieldCount
    ∷ number_fault 1 (pos 0) (pos greatest_number) (field fields 1)
    ∷ number_fault 2 (neg_ℤ (pos greatest_time)) (pos greatest_time) (field fields 2) ∷ []
