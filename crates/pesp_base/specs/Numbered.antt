-- Lists whose members have numbers, each number once and ascending.
use Rattle.std.specs.Prelude.{ℕ, ◌==◌, nat_lt, not, List, ◌∷◌, ◌++◌, map, filter, find, Option, if◌then◌else◌}

-- the member of number n
abbrev pub with_number : {X : Type 0} → (X → ℕ) → ℕ → List X → Option X
with_number number n xs = find (λ x. number x == n) xs

-- x between the members of smaller and of greater number, and in the place of one of its own number
abbrev pub put_in : {X : Type 0} → (X → ℕ) → X → List X → List X
put_in number x xs =
    filter (λ y. nat_lt (number y) (number x)) xs ++ x ∷ filter (λ y. nat_lt (number x) (number y)) xs

-- the members of other numbers than n
abbrev pub take_out : {X : Type 0} → (X → ℕ) → ℕ → List X → List X
take_out number n xs = filter (λ y. not (number y == n)) xs

-- the list with the member of number n changed
abbrev pub change_in : {X : Type 0} → (X → ℕ) → ℕ → (X → X) → List X → List X
change_in number n change xs = map (λ x. if number x == n then change x else x) xs
