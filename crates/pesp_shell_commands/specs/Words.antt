-- The words of a line.
use Rattle.std.specs.Prelude.{ℕ, ◌≡◌, Bool, false, ◌||◌, not, ◌==◌, List, [], ◌∷◌, map, filter, length}
use Rattle.std.specs.Borrow.{Bor}
use Rattle.pesp_shell_io.specs.Lines.{cut_at}

-- a space, a tab or a carriage return
abbrev pub is_space : ℕ → Bool
is_space b = (b == 32) || (b == 9) || (b == 13)

abbrev pub has_byte : List ℕ → Bool
has_byte bytes = not (length bytes == 0)

-- the longest runs of other bytes
abbrev pub words_of : List ℕ → List (List ℕ)
words_of line = filter has_byte (cut_at is_space line)

-- the texts after references
abbrev pub texts : List (Bor (List ℕ)) → List (List ℕ)
texts words = map (λ w. w.now) words

-- bytes that, where there are any, begin with a word
abbrev pub IsAtWord : List ℕ → Type 0
IsAtWord [] = Unit {0}
IsAtWord (b ∷ bytes) = is_space b ≡ false
