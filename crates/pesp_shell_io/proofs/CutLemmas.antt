-- Lines that were put together are what cutting finds again.
use Rattle.std.proofs.Common.{◌≡◌, ℕ, ◌<◌, Bool, true, List, [], ◌∷◌, ◌++◌, length, refl, ap, ◌∙◌, append_assoc, arith}
use Rattle.pesp_base.specs.Texts.{as_lines}
use Rattle.pesp_shell_io.specs.Lines.{IsUncut, cut_at, is_line_feed, lines_of}

-- two such pieces are one
pub IsUncut-append : (ends : ℕ → Bool) (p q : List ℕ) → IsUncut ends p → IsUncut ends q → IsUncut ends (p ++ q)
IsUncut-append ends [] q whole more = more
IsUncut-append ends (b ∷ p) q whole more = (whole.0, IsUncut-append ends p q whole.1 more)

-- a piece, the byte that ends it, and what is cut after that byte
pub cut_ended : (ends : ℕ → Bool) (piece : List ℕ) (b : ℕ) (rest : List ℕ) → IsUncut ends piece → ends b ≡ true
    → cut_at ends (piece ++ b ∷ rest) ≡ piece ∷ cut_at ends rest
cut_ended ends [] b rest whole e = rw e refl
cut_ended ends (c ∷ piece) b rest whole e = rw (whole.0, cut_ended ends piece b rest whole.1 e) refl

-- a last piece, which no byte ends
pub cut_whole : (ends : ℕ → Bool) (piece : List ℕ) → IsUncut ends piece → 0 < length piece → cut_at ends piece ≡ piece ∷ []
cut_whole ends [] whole some = absurd (omega (arith, some))
cut_whole ends (b ∷ []) whole some = rw whole.0 refl
cut_whole ends (b ∷ c ∷ piece) whole some = rw (whole.0, cut_whole ends (c ∷ piece) whole.1 (omega arith)) refl

-- no line has a line feed
abbrev pub AreLines : List (List ℕ) → Type 0
AreLines [] = Unit {0}
AreLines (line ∷ lines) = IsUncut is_line_feed line × AreLines lines

-- the lines of a text that was made of lines
pub lines_of-as_lines : (lines : List (List ℕ)) → AreLines lines → lines_of (as_lines lines) ≡ lines
lines_of-as_lines [] whole = refl
lines_of-as_lines (line ∷ lines) whole =
    ap lines_of (append_assoc line (10 ∷ []) (as_lines lines))
    ∙ cut_ended is_line_feed line 10 (as_lines lines) whole.0 refl
    ∙ ap (λ ls. line ∷ ls) (lines_of-as_lines lines whole.1)
