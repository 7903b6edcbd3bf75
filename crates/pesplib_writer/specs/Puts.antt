-- What is left of a text after which something was to be put, and no memory was found.
use Rattle.std.specs.Prelude.{◌≡◌, ◌⊎◌, ℕ, ◌+◌, ◌<◌, List, [], ◌∷◌, ◌++◌, length, vec_capacity}
use Rattle.std.specs.Global.{Vec}

-- a text has no room for more bytes
abbrev pub HasNoRoom : Vec ℕ → List ℕ → Type 0
HasNoRoom text bytes = vec_capacity text < length text.items + length bytes

-- the first of some pieces stand after a text, each of them whole, and not all
abbrev pub IsPutInPart : List ℕ → List ℕ → List (List ℕ) → Type 0
IsPutInPart old new [] = ⊥
IsPutInPart old new (p ∷ pieces) = (new ≡ old) ⊎ IsPutInPart (old ++ p) new pieces
