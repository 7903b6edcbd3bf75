-- The words of a line, from left to right.
use Rattle.std.proofs.Common.{◌≡◌, ℕ, suc, ◌+◌, ◌≤◌, ◌==◌, inl, inr, Bool, true, false, nat_lt, List, [], ◌∷◌, ◌++◌, length, take, drop, Some, None, not, refl, ap, cond, sym, ◌∙◌, filter, arith}
use Rattle.std.specs.List.{position, position_or_len}
use Rattle.std.proofs.lemmas.Bool.{cases_lt, lt-ltb, ne_eqb}
use Rattle.std.proofs.lemmas.List.{append-nil, take-append-drop}
use Rattle.std.proofs.lemmas.List.Sums.{prefix_len-le-length}
use Rattle.pesp_shell_io.specs.Lines.{before_pieces, cut_at, IsUncut}
use Rattle.pesp_shell_commands.specs.Words.{has_byte, is_space, words_of, IsAtWord}
use Rattle.pesp_shell_io.proofs.CutLemmas.{cut_ended, cut_whole}

-- bytes that, where there are any, begin with a space
abbrev pub IsApart : List ℕ → Type 0
IsApart [] = Unit {0}
IsApart (b ∷ bytes) = is_space b ≡ true

-- ---- what a space and a word add to the words

-- a space in front changes nothing
pub words_of-space : (b : ℕ) (bytes : List ℕ) → is_space b ≡ true → words_of (b ∷ bytes) ≡ words_of bytes
words_of-space b bytes e = ap (λ t. filter has_byte (before_pieces t b (cut_at is_space bytes))) e

-- a piece with a byte is a word
kept : (x : ℕ) (w : List ℕ) (pieces : List (List ℕ)) → filter has_byte ((x ∷ w) ∷ pieces) ≡ (x ∷ w) ∷ filter has_byte pieces
kept x w pieces = ap (λ t. cond (not t) ((x ∷ w) ∷ filter has_byte pieces) (filter has_byte pieces)) (ne_eqb (suc (length w)) 0 (λ e. absurd (omega arith)))

-- a word in front of bytes that are apart from it is the first word
pub words_of-apart : (x : ℕ) (w bytes : List ℕ) → IsUncut is_space (x ∷ w) → IsApart bytes → words_of ((x ∷ w) ++ bytes) ≡ (x ∷ w) ∷ words_of bytes
words_of-apart x w [] whole apart =
    ap (λ v. words_of (x ∷ v)) (append-nil w) ∙ ap (filter has_byte) (cut_whole is_space (x ∷ w) whole (omega arith)) ∙ kept x w []
words_of-apart x w (b ∷ bytes) whole apart =
    ap (filter has_byte) (cut_ended is_space (x ∷ w) b bytes whole apart)
    ∙ kept x w (cut_at is_space bytes) ∙ ap (λ ws. (x ∷ w) ∷ ws) (sym (words_of-space b bytes apart))

-- ---- where the first word ends

-- the bytes up to the first space have none
spaceless_before : (bytes : List ℕ) → IsUncut is_space (take (position_or_len is_space bytes) bytes)
spaceless_before [] = tt
spaceless_before (b ∷ bytes) = go (is_space b) refl (spaceless_before bytes)
  where
    go : (t : Bool) → is_space b ≡ t → IsUncut is_space (take (position_or_len is_space bytes) bytes)
        → IsUncut is_space (take (cond (not t) (1 + position_or_len is_space bytes) 0) (b ∷ bytes))
    go true e rest = tt
    go false e rest =
        let more : 1 + position_or_len is_space bytes ≡ suc (position_or_len is_space bytes) = omega arith in
        rw more (e, rest)

-- what follows them begins with it
apart_after : (bytes : List ℕ) → IsApart (drop (position_or_len is_space bytes) bytes)
apart_after [] = tt
apart_after (b ∷ bytes) = go (is_space b) refl (apart_after bytes)
  where
    go : (t : Bool) → is_space b ≡ t → IsApart (drop (position_or_len is_space bytes) bytes)
        → IsApart (drop (cond (not t) (1 + position_or_len is_space bytes) 0) (b ∷ bytes))
    go true e rest = e
    go false e rest =
        let more : 1 + position_or_len is_space bytes ≡ suc (position_or_len is_space bytes) = omega arith in
        rw more rest

-- the first word, up to the first space, and the words after it
pub first_word_of : (bytes : List ℕ) → IsAtWord bytes → (length bytes == 0) ≡ false
    → words_of bytes ≡ take (position_or_len is_space bytes) bytes ∷ words_of (drop (position_or_len is_space bytes) bytes)
first_word_of [] at some = absurd (cc)
first_word_of (b ∷ bytes) at some =
    let n = position_or_len is_space bytes in
    let place : position_or_len is_space (b ∷ bytes) ≡ suc n = ap (λ t. cond (not t) (1 + n) 0) at ∙ omega arith in
    let first : IsUncut is_space (b ∷ take n bytes) = (at, spaceless_before bytes) in
    rw place (ap (λ bs. words_of (b ∷ bs)) (sym (take-append-drop n bytes)) ∙ words_of-apart b (take n bytes) (drop n bytes) first (apart_after bytes))

module _ (p : ℕ → Bool) (bytes : List ℕ) where
  -- a search finds the place
  pub place_found : (n : ℕ) → Some n ≡ position p bytes → n ≡ position_or_len p bytes
  place_found n e = go (nat_lt (position_or_len p bytes) (length bytes)) e
    where
      go : (t : Bool) → Some n ≡ cond t (Some (position_or_len p bytes)) None → n ≡ position_or_len p bytes
      go true h = cc
      go false h = absurd (cc)

  -- or none, where there is none
  pub no_place_found : None ≡ position p bytes → length bytes ≡ position_or_len p bytes
  no_place_found e =
      elim (cases_lt (position_or_len p bytes) (length bytes)) [
        | inl h ↦ let is = lt-ltb (position_or_len p bytes) (length bytes) h in absurd (no (e ∙ ap (λ t. cond t (Some (position_or_len p bytes)) None) is))
        | inr h ↦ omega (arith, prefix_len-le-length (λ b. not (p b)) bytes)
      ]
    where
      no : None ≡ Some (position_or_len p bytes) → ⊥
      no h = cc

pub length_of_word-le-length : (bytes : List ℕ) → position_or_len is_space bytes ≤ length bytes
length_of_word-le-length bytes = prefix_len-le-length (λ b. not (is_space b)) bytes
