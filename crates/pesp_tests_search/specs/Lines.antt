-- Maps of one event, for examples.
use Rattle.std.specs.Prelude.{◌≡◌, ℕ, ◌<◌, ◌≤◌, List, [], ◌∷◌, Option, Some, slice_get}

-- the map gives its event a residue from the lowest on and below the end, of which the list has this sum
pub record IsOnLine (costs : List (Option ℕ)) (lowest end : ℕ) (map : List ℕ) (sum : ℕ) : Type 0 where
  pub residue : ℕ
  pub above : lowest ≤ residue
  pub below : residue < end
  pub gives : map ≡ residue ∷ []
  pub costs_it : slice_get costs residue ≡ Some (Some sum)
