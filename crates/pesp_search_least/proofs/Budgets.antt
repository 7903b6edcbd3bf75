-- Budgets that are only spent.
use Rattle.std.proofs.Common.{◌≢◌, ℕ, zero, suc, Option, Some, None, refl, arith}
use Rattle.pesp_search_least.specs.Spending.{OnlySpends, SpendsUnit, after}

-- what does not change is only spent
pub spends_none : (old : Option ℕ) → OnlySpends old old
spends_none None = refl
spends_none (Some left) = omega arith

-- what is only spent twice is only spent
pub spends_on : (old mid new : Option ℕ) → OnlySpends old mid → OnlySpends mid new → OnlySpends old new
spends_on None None new first second = second
spends_on None (Some m) new first second = cc
spends_on (Some l) None new first second = absurd first
spends_on (Some l) (Some m) None first second = absurd second
spends_on (Some l) (Some m) (Some n) first second = omega (arith, first, second)

-- where a unit is spent, nothing is put back
pub unit_spends : (old new : Option ℕ) → SpendsUnit old new → OnlySpends old new
unit_spends None new spends = spends
unit_spends (Some l) None spends = absurd spends
unit_spends (Some l) (Some n) spends = omega (arith, spends)

-- what is spent after a unit
pub unit_before : (old mid new : Option ℕ) → SpendsUnit old mid → OnlySpends mid new → SpendsUnit old new
unit_before None None new first second = second
unit_before None (Some m) new first second = cc
unit_before (Some l) None new first second = absurd first
unit_before (Some l) (Some m) None first second = absurd second
unit_before (Some l) (Some m) (Some n) first second = omega (arith, first, second)

-- a unit that is spent after others
pub unit_after : (old mid new : Option ℕ) → OnlySpends old mid → SpendsUnit mid new → SpendsUnit old new
unit_after None None new first second = second
unit_after None (Some m) new first second = cc
unit_after (Some l) None new first second = absurd first
unit_after (Some l) (Some m) None first second = absurd second
unit_after (Some l) (Some m) (Some n) first second = omega (arith, first, second)

-- no unit can be spent where nothing is left
pub unit_none : (new : Option ℕ) → SpendsUnit (Some 0) new → ⊥
unit_none None spends = spends
unit_none (Some n) spends = omega (arith, spends)

-- a unit is spent where there is one
pub unit_of_one : (old : Option ℕ) → old ≢ Some 0 → SpendsUnit old (after old 1)
unit_of_one None some = refl
unit_of_one (Some zero) some = absurd (some refl)
unit_of_one (Some (suc n)) some = omega arith
