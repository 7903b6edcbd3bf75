-- Words that are a form's name and numbers of its ranges say the command that the form makes.
use Rattle.std.proofs.Common.{◌≡◌, ℕ, ◌+◌, false, List, [], ◌∷◌, ◌++◌, length, map, ℤ, pos, Option, Some, Ok, refl, ap, ◌∙◌, eq-eqb, length-append}
use Rattle.std.specs.Prelude.{unwrap_or}
use Rattle.std.proofs.Math.Seq.{drop-append_seam}
use Rattle.pesp_base.specs.Numbers.{number_in, within}
use Rattle.pesp_base.specs.Refusals.{unless_refused}
use Rattle.pesp_shell_commands.specs.declared.parsing.ParseFault.{ParseFault}
use Rattle.pesp_shell_commands.specs.Parsed.{Form, Range, arguments, number_faults, number_of, parsed_by}
use Rattle.pesp_shell_commands.proofs.WordLemmas.{IsNumber}

-- words write numbers of ranges, one of each
pub data AreNumbers : List Range → List (List ℕ) → List ℤ → Type 0 where
  none : AreNumbers [] [] []
  one_more : {range : Range} {word : List ℕ} {z : ℤ} {ranges : List Range} {words : List (List ℕ)} {zs : List ℤ}
      → IsNumber range word z → AreNumbers ranges words zs → AreNumbers (range ∷ ranges) (word ∷ words) (z ∷ zs)

-- such a word is a number within its range
in_range : (range : Range) (word : List ℕ) (z : ℤ) → IsNumber range word z → number_in range.low range.high word ≡ Ok z
in_range range word z is = ap (within range.low range.high) is.reads ∙ rw (is.not_below, is.not_above) refl

-- such words have no fault
no_faults : {X : Type 0} {ranges : List Range} {words : List (List ℕ)} {zs : List ℤ} → AreNumbers ranges words zs → (k : ℕ) (rest : List (Option ParseFault)) (x : X)
    → unless_refused (number_faults k ranges words ++ rest) x ≡ unless_refused rest x
no_faults none k rest x = refl
no_faults (one_more {range} {word} {z} is are) k rest x = rw (in_range range word z is) (no_faults are (k + 1) rest x)

-- and their numbers are those that they write
numbers_of : {ranges : List Range} {words : List (List ℕ)} {zs : List ℤ} → AreNumbers ranges words zs → map number_of words ≡ zs
numbers_of none = refl
numbers_of (one_more {range} {word} {z} is are) = rw (numbers_of are, ap (λ o. unwrap_or o (pos 0)) is.reads) refl

as_many : {ranges : List Range} {words : List (List ℕ)} {zs : List ℤ} → AreNumbers ranges words zs → length words ≡ length ranges
as_many none = refl
as_many (one_more is are) = rw (as_many are) refl

-- so the form makes its command of them
pub form_says : (form : Form) (words : List (List ℕ)) (zs : List ℤ) → AreNumbers form.ranges words zs → form.is_crossed zs ≡ false
    → parsed_by (Some form) (form.name ++ words) ≡ Ok (Some (form.made zs))
form_says form words zs are apart =
    let after : arguments form (form.name ++ words) ≡ words = drop-append_seam form.name words in
    let many : length (form.name ++ words) ≡ length form.name + length form.ranges = length-append form.name words ∙ ap (λ n. length form.name + n) (as_many are) in
    rw (after, eq-eqb _ _ many, no_faults are, numbers_of are, apart) refl
