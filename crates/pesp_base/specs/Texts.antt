-- How numbers and lines are written and read in files, commands and replies.
use Rattle.std.specs.Prelude.{ℕ, ◌+◌, ◌-◌, ◌*◌, List, [], ◌∷◌, ◌++◌, fold, flat_map, ℤ, pos, neg_ℤ, Option, Some, None, option_map, if◌then◌else◌, ◌==◌}
use Rattle.std.specs.List.{list_all}
use Rattle.std.specs.Char.{is_ascii_digit}

-- a number in digits alone, one or more
abbrev pub digits_value : List ℕ → Option ℕ
digits_value [] = None
digits_value (d ∷ ds) =
    if list_all is_ascii_digit (d ∷ ds) then Some (fold (λ n c. 10 * n + (c - 48)) 0 (d ∷ ds)) else None

-- a number: digits after a plus, a minus or neither
abbrev pub number_value : List ℕ → Option ℤ
number_value [] = None
number_value (b ∷ bs) =
    if b == 43 then option_map pos (digits_value bs)
    else if b == 45 then option_map (λ n. neg_ℤ (pos n)) (digits_value bs)
    else option_map pos (digits_value (b ∷ bs))

-- the pieces with a text between each two
abbrev pub separated : List ℕ → List (List ℕ) → List ℕ
separated between [] = []
separated between (p ∷ []) = p
separated between (p ∷ q ∷ pieces) = p ++ between ++ separated between (q ∷ pieces)

-- the words with a space between each two
abbrev pub words_line : List (List ℕ) → List ℕ
words_line words = separated (32 ∷ []) words

-- each line and a line feed
abbrev pub as_lines : List (List ℕ) → List ℕ
as_lines lines = flat_map (λ l. l ++ 10 ∷ []) lines
