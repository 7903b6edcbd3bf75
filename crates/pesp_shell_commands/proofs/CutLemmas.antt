-- Words that were put together are what cutting finds again.
use Rattle.std.proofs.Common.{◌≡◌, ℕ, ◌<◌, List, [], ◌∷◌, length, filter, refl, ap, ◌∙◌, append_assoc, arith, ne_eqb}
use Rattle.pesp_base.specs.Texts.{words_line}
use Rattle.pesp_shell_io.specs.Lines.{IsUncut, cut_at}
use Rattle.pesp_shell_io.proofs.CutLemmas.{cut_ended, cut_whole}
use Rattle.pesp_shell_commands.specs.Words.{has_byte, is_space, words_of}

-- a word has a byte, and no space, tab or carriage return
abbrev pub IsWord : List ℕ → Type 0
IsWord word = IsUncut is_space word × (0 < length word)

-- each of them does
abbrev pub AreWords : List (List ℕ) → Type 0
AreWords [] = Unit {0}
AreWords (word ∷ words) = IsWord word × AreWords words

cut_words : (words : List (List ℕ)) → AreWords words → cut_at is_space (words_line words) ≡ words
cut_words [] are = refl
cut_words (w ∷ []) are = cut_whole is_space w are.0.0 are.0.1
cut_words (w ∷ v ∷ words) are =
    ap (cut_at is_space) (append_assoc w (32 ∷ []) (words_line (v ∷ words)))
    ∙ cut_ended is_space w 32 (words_line (v ∷ words)) are.0.0 refl
    ∙ ap (λ ws. w ∷ ws) (cut_words (v ∷ words) are.1)

has_bytes : (words : List (List ℕ)) → AreWords words → filter has_byte words ≡ words
has_bytes [] are = refl
has_bytes ([] ∷ words) are = absurd (omega (arith, are.0.1))
has_bytes ((b ∷ w) ∷ words) are = rw (ne_eqb (length (b ∷ w)) 0 (λ none. absurd (omega (arith, none)))) (ap (λ ws. (b ∷ w) ∷ ws) (has_bytes words are.1))

-- the words of a line that was made of words
pub words_of-words_line : (words : List (List ℕ)) → AreWords words → words_of (words_line words) ≡ words
words_of-words_line words are = ap (filter has_byte) (cut_words words are) ∙ has_bytes words are
