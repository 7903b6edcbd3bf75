-- A capped number fits, with either sign.
use Rattle.std.proofs.Common.{◌≡◌, ℕ, ◌≤◌, min, Option, Some, None, option_map, sym, ◌∙◌, arith}
use Rattle.std.proofs.lemmas.Int.{ints}
use Rattle.pesp_base.specs.Numbers.{number_cap}
use Rattle.pesp_base.proofs.number.capped_number.Goals as goal

at_most_cap : (o : Option ℕ) (n : ℕ) → Some n ≡ option_map (min number_cap) o → n ≤ 10000000000000
at_most_cap None n is = absurd (cc)
at_most_cap (Some m) n is = let same : n ≡ min number_cap m = cc in omega (arith, same)

-- Found by search, and named so that it is found at once.
pub overflow_cast-result : goal.overflow_cast-result
overflow_cast-result c =
    let low = at_most_cap _ _ (sym c.in_ok-capped_digits-in-43.was ∙ c.capped_digits.ensures) in
    omega (arith, ints, low)

pub overflow_cast-result-in-45 : goal.overflow_cast-result-in-45
overflow_cast-result-in-45 c =
    let low = at_most_cap _ _ (sym c.in_ok-capped_digits-in-45.was ∙ c.capped_digits-in-45.ensures) in
    omega (arith, ints, low)

pub overflow_sub-result : goal.overflow_sub-result
overflow_sub-result c =
    let low = at_most_cap _ _ (sym c.in_ok-capped_digits-in-45.was ∙ c.capped_digits-in-45.ensures) in
    omega (arith, ints, low)

pub overflow_cast-result-in_default : goal.overflow_cast-result-in_default
overflow_cast-result-in_default c =
    let low = at_most_cap _ _ (sym c.in_ok-capped_digits-in_default.was ∙ c.capped_digits-in_default.ensures) in
    omega (arith, ints, low)
