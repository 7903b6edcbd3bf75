-- Lines of plain words, and those that say an edit.
use Rattle.std.proofs.Common.{◌≡◌, ℕ, ◌+◌, ◌*◌, ◌≤◌, false, List, [], ◌∷◌, ◌++◌, length, ℤ, Some, Ok, refl, ap, ◌∙◌, arith, length-append}
use Rattle.pesp_base.specs.Texts.{words_line}
use Rattle.pesp_instance.specs.declared.edit.Edit.{Edit}
use Rattle.pesp_shell_commands.specs.declared.command.Command.TheVariants as command
use Rattle.pesp_shell_io.specs.declared.limits.TheConstants.{LONGEST_LINE}
use Rattle.pesp_shell_io.specs.Lines.{is_line_feed, IsUncut}
use Rattle.pesp_shell_commands.specs.Parsed.{Form, Range, parsed, parsed_by, parsed_words}
use Rattle.pesp_shell_commands.specs.Replayed.{said}
use Rattle.pesp_shell_commands.proofs.CutLemmas.{AreWords, words_of-words_line}
use Rattle.pesp_shell_io.proofs.CutLemmas.{IsUncut-append}
use Rattle.pesp_shell_commands.proofs.FormLemmas.{AreNumbers, form_says}
use Rattle.pesp_shell_commands.proofs.FormLemmas.AreNumbers.{none, one_more}
use Rattle.pesp_shell_commands.proofs.WordLemmas.{IsPlain}

-- each word is plain
abbrev pub ArePlain : List (List ℕ) → Type 0
ArePlain [] = Unit {0}
ArePlain (word ∷ words) = IsPlain word × ArePlain words

plain_words : (words : List (List ℕ)) → ArePlain words → AreWords words
plain_words [] are = tt
plain_words (w ∷ words) are = ((are.0.unspaced, are.0.some), plain_words words are.1)

plain_more : (words more : List (List ℕ)) → ArePlain words → ArePlain more → ArePlain (words ++ more)
plain_more [] more are others = others
plain_more (w ∷ words) more are others = (are.0, plain_more words more are.1 others)

plain_numbers : {ranges : List Range} {words : List (List ℕ)} {zs : List ℤ} → AreNumbers ranges words zs → ArePlain words
plain_numbers none = tt
plain_numbers (one_more is are) = (is.plain, plain_numbers are)

-- plain words make one line
pub one_line : (words : List (List ℕ)) → ArePlain words → IsUncut is_line_feed (words_line words)
one_line [] are = tt
one_line (w ∷ []) are = are.0.one_line
one_line (w ∷ v ∷ words) are =
    IsUncut-append is_line_feed (w ++ 32 ∷ []) (words_line (v ∷ words)) (IsUncut-append is_line_feed w (32 ∷ []) are.0.one_line (refl, tt)) (one_line (v ∷ words) are.1)

-- of at most twelve bytes a word
pub short_line : (words : List (List ℕ)) → ArePlain words → length (words_line words) ≤ 12 * length words
short_line [] are = omega arith
short_line (w ∷ []) are = omega (arith, are.0.short)
short_line (w ∷ v ∷ words) are =
    omega (arith, length-append (w ++ 32 ∷ []) (words_line (v ∷ words)), length-append w (32 ∷ []), are.0.short, short_line (v ∷ words) are.1)

-- and the line says what its words say
pub parsed_line : (words : List (List ℕ)) → ArePlain words → parsed (words_line words) ≡ parsed_words words
parsed_line words are = ap parsed_words (words_of-words_line words (plain_words words are))

-- a short line says an edit
pub record SaysEdit (edit : Edit) (line : List ℕ) : Type 0 where
  pub says : parsed line ≡ said edit
  pub one_line : IsUncut is_line_feed line
  pub short : length line ≤ LONGEST_LINE

-- a form's name and numbers of its ranges say the edit that the form makes
pub says_form : (form : Form) (edit : Edit) (words : List (List ℕ)) (zs : List ℤ)
    → ArePlain form.name → AreNumbers form.ranges words zs → length form.name + length words ≤ 8
    → parsed_words (form.name ++ words) ≡ parsed_by (Some form) (form.name ++ words) → form.is_crossed zs ≡ false → form.made zs ≡ command.Edit edit
    → SaysEdit edit (words_line (form.name ++ words))
says_form form edit words zs name numbers few found apart made =
    let plain : ArePlain (form.name ++ words) = plain_more form.name words name (plain_numbers numbers) in
    record {
      says = parsed_line (form.name ++ words) plain ∙ found ∙ form_says form words zs numbers apart ∙ ap (λ c. Ok (Some c)) made;
      one_line = one_line (form.name ++ words) plain;
      short = omega (arith, short_line (form.name ++ words) plain, length-append form.name words, few);
    }
