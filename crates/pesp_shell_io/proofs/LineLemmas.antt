-- The lines of what was read, as they are taken from it one after the other.
use Rattle.std.proofs.Common.{◌≡◌, ℕ, zero, suc, ◌+◌, ◌<◌, Bool, true, false, cond, List, [], ◌∷◌, ◌++◌, length, take, drop, slice_index, count_by, refl, sym, ap, ◌∙◌, append_assoc, append-nil, add-one, zero-add, one-add, arith}
use Rattle.std.proofs.lemmas.List.{take_at}
use Rattle.std.proofs.lemmas.List.Sums.{sum_by-cons}
use Rattle.pesp_base.specs.Texts.{as_lines}
use Rattle.pesp_shell_io.specs.declared.line_reader.Front.TheVariants as fronts
use Rattle.pesp_shell_io.specs.Fronts.{IsFront}
use Rattle.pesp_shell_io.specs.Lines.{IsUncut, before_pieces, cut_at, ended_lines, is_line_feed, lines_of}
use Rattle.pesp_shell_io.proofs.CutLemmas.{AreLines, cut_ended, cut_whole}

-- a line and its line feed, and what is after them
pub lines_of-ended : (line rest : List ℕ) → IsUncut is_line_feed line → lines_of (line ++ 10 ∷ rest) ≡ line ∷ lines_of rest
lines_of-ended line rest whole = cut_ended is_line_feed line 10 rest whole refl

-- the bytes before a line feed, and those after it
line_feed_between : (held : List ℕ) (n : ℕ) → n < length held → slice_index held n ≡ 10 → held ≡ take n held ++ 10 ∷ drop (suc n) held
line_feed_between [] n low at = absurd (omega (arith, low))
line_feed_between (b ∷ held) zero low at = ap (λ x. x ∷ held) at
line_feed_between (b ∷ held) (suc n) low at = ap (λ l. b ∷ l) (line_feed_between held n (omega (arith, low)) at)

-- a line at the front, and what is held after it
pub line_at_front : (held : List ℕ) (n : ℕ) → IsFront held (fronts.Line n) → held ≡ take n held ++ 10 ∷ drop (n + 1) held
line_at_front held n front = rw (add-one n) (line_feed_between held n front.0 front.1)

-- a last line without a line feed
pub lines_of-last : (line : List ℕ) → IsUncut is_line_feed line → 0 < length line → lines_of line ≡ line ∷ []
lines_of-last line whole some = cut_whole is_line_feed line whole some

-- a text that begins with lines
pub lines_of-after : (lines : List (List ℕ)) (p : List ℕ) → AreLines lines → lines_of (as_lines lines ++ p) ≡ lines ++ lines_of p
lines_of-after [] p whole = refl
lines_of-after (line ∷ lines) p whole =
    ap lines_of (append_assoc (line ++ 10 ∷ []) (as_lines lines) p ∙ append_assoc line (10 ∷ []) (as_lines lines ++ p))
    ∙ lines_of-ended line (as_lines lines ++ p) whole.0
    ∙ ap (λ ls. line ∷ ls) (lines_of-after lines p whole.1)

-- a piece has no byte that ends one
count_by-uncut : (ends : ℕ → Bool) (piece rest : List ℕ) → IsUncut ends piece → count_by ends (piece ++ rest) ≡ count_by ends rest
count_by-uncut ends [] rest whole = refl
count_by-uncut ends (b ∷ piece) rest whole =
    sum_by-cons (λ x. cond (ends x) 1 0) b (piece ++ rest) ∙ ap (λ is. cond is 1 0 + count_by ends (piece ++ rest)) whole.0
    ∙ zero-add (count_by ends (piece ++ rest)) ∙ count_by-uncut ends piece rest whole.1

-- a line feed stands after each line, and none else
count_by-lines : (lines : List (List ℕ)) (p : List ℕ) → AreLines lines → IsUncut is_line_feed p → count_by is_line_feed (as_lines lines ++ p) ≡ length lines
count_by-lines [] p whole uncut = ap (count_by is_line_feed) (sym (append-nil p)) ∙ count_by-uncut is_line_feed p [] uncut
count_by-lines (line ∷ lines) p whole uncut =
    let rest = as_lines lines ++ p in
    let apart = append_assoc (line ++ 10 ∷ []) (as_lines lines) p ∙ append_assoc line (10 ∷ []) rest in
    let one : count_by is_line_feed (10 ∷ rest) ≡ 1 + count_by is_line_feed rest = sum_by-cons (λ x. cond (is_line_feed x) 1 0) 10 rest in
    ap (count_by is_line_feed) apart ∙ count_by-uncut is_line_feed line (10 ∷ rest) whole.0 ∙ one
    ∙ ap (λ n. 1 + n) (count_by-lines lines p whole.1 uncut) ∙ one-add (length lines)

-- the lines that are ended, before a piece without a line feed
pub ended_lines-before : (lines : List (List ℕ)) (p : List ℕ) → AreLines lines → IsUncut is_line_feed p → ended_lines (as_lines lines ++ p) ≡ lines
ended_lines-before lines p whole uncut =
    ap (λ n. take n (lines_of (as_lines lines ++ p))) (count_by-lines lines p whole uncut)
    ∙ ap (take (length lines)) (lines_of-after lines p whole)
    ∙ take_at lines (lines_of p) (length lines) refl

-- no line of a text has a line feed
are_lines-before : (b : ℕ) (is : Bool) (pieces : List (List ℕ)) → is_line_feed b ≡ is → AreLines pieces → AreLines (before_pieces is b pieces)
are_lines-before b true pieces e are = (tt, are)
are_lines-before b false [] e are = ((e, tt), tt)
are_lines-before b false (p ∷ pieces) e are = ((e, are.0), are.1)

pub are_lines : (bytes : List ℕ) → AreLines (lines_of bytes)
are_lines [] = tt
are_lines (b ∷ bytes) = are_lines-before b (is_line_feed b) (lines_of bytes) refl (are_lines bytes)

-- a byte that joins the first piece
joined : (b : ℕ) (pieces : List (List ℕ)) → (more : List ℕ) × (others : List (List ℕ)) × (before_pieces false b pieces ≡ (b ∷ more) ∷ others)
joined b [] = ([], [], refl)
joined b (p ∷ pieces) = (p, pieces, refl)

cut_front : (ends : ℕ → Bool) (piece rest : List ℕ) → IsUncut ends piece → 0 < length piece
    → (more : List ℕ) × (others : List (List ℕ)) × (cut_at ends (piece ++ rest) ≡ (piece ++ more) ∷ others)
cut_front ends [] rest whole some = absurd (omega (arith, some))
cut_front ends (b ∷ []) rest whole some =
    let (more, others, e) = joined b (cut_at ends rest) in
    (more, others, ap (λ is. before_pieces is b (cut_at ends rest)) whole.0 ∙ e)
cut_front ends (b ∷ c ∷ piece) rest whole some =
    let (more, others, e) = cut_front ends (c ∷ piece) rest whole.1 (omega arith) in
    (more, others, ap (λ is. before_pieces is b (cut_at ends (c ∷ piece ++ rest))) whole.0 ∙ ap (before_pieces false b) e)

-- a text that begins with bytes that are no line feed has them at the front of its first line
pub lines_of-front : (line rest : List ℕ) → IsUncut is_line_feed line → 0 < length line
    → (more : List ℕ) × (lines : List (List ℕ)) × (lines_of (line ++ rest) ≡ (line ++ more) ∷ lines)
lines_of-front line rest whole some = cut_front is_line_feed line rest whole some

some_piece : (is : Bool) (b : ℕ) (pieces : List (List ℕ)) → 0 < length (before_pieces is b pieces)
some_piece true b pieces = omega arith
some_piece false b [] = omega arith
some_piece false b (p ∷ pieces) = omega arith

-- a text with a byte has a line
pub some_line : (bytes : List ℕ) → 0 < length bytes → 0 < length (lines_of bytes)
some_line [] some = absurd (omega (arith, some))
some_line (b ∷ bytes) some = some_piece (is_line_feed b) b (lines_of bytes)
