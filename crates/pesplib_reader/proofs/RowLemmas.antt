-- What it means that a field has no fault.
use Rattle.std.proofs.Common.{◌≡◌, ◌||◌, Bool, true, false, if◌then◌else◌, int_lt, ℕ, ℤ, pos, List, Option, Some, None, unwrap_or, Ok, Err}
use Rattle.pesp_base.specs.Texts.{number_value}
use Rattle.pesp_base.specs.Numbers.{number_in, within}
use Rattle.pesplib_reader.specs.Rows.{value}
use Rattle.pesp_base.specs.declared.number.NumberFault.TheVariants as fault

inside : (t : Bool) (n z : ℤ) → Ok z ≡ (if t then Err fault.OutOfRange else Ok n) → z ≡ n
inside true n z h = absurd (cc)
inside false n z h = cc

found : (low high z : ℤ) (number : Option ℤ) → Ok z ≡ within low high number → z ≡ unwrap_or number (pos 0)
found low high z None h = absurd (cc)
found low high z (Some n) h = inside (int_lt n low || int_lt high n) n z h

-- a number that was found within limits is the number of the text
pub number_found : (low high z : ℤ) (text : List ℕ) → Ok z ≡ number_in low high text → z ≡ value text
number_found low high z text = found low high z (number_value text)
