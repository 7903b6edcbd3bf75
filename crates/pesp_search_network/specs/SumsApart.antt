-- Sums that are those of two others, added up.
use Rattle.std.specs.Prelude.{◌≡◌, ℕ, ◌+◌, List}
use Rattle.pesp_search_least.specs.Sums.{Sums}

-- a sum of the one and a sum of the other are this number together
pub record AreTogether (one other : Sums) (sum : ℕ) : Type 0 where
  pub first : List ℕ
  pub second : List ℕ
  pub part : ℕ
  pub rest : ℕ
  pub has_first : one first part
  pub has_second : other second rest
  pub adds : part + rest ≡ sum

-- each sum of the whole is one of the one and one of the other, and each two of these are one of the whole
pub record IsSumOf (whole one other : Sums) : Type 0 where
  pub apart : (map : List ℕ) (sum : ℕ) → whole map sum → AreTogether one other sum
  pub together : (first second : List ℕ) (part rest : ℕ) → one first part → other second rest → (map : List ℕ) × whole map (part + rest)
