-- Small cases of the definitions, by computation.
use Rattle.std.proofs.Common.{◌≡◌, ℕ, refl, pos, negsuc, true, false, [], ◌∷◌, Some, None, Err, codes, int_rem, unsigned_abs, ◌-ℤ◌}
use Rattle.pesp_base.specs.declared.refusal.Refusal.{Refusal}
use Rattle.pesp_base.specs.declared.refusal.Refusal.TheVariants as no
use Rattle.pesp_base.specs.Bounds.{Bounds}
use Rattle.pesp_base.specs.Refusals.{when, unless_refused}
use Rattle.pesp_base.specs.Residues.{partners_of, sources_of}
use Rattle.pesp_base.specs.Tensions.{tension_of, slack_of, is_met}
use Rattle.pesp_base.specs.Texts.{number_value, separated, words_line, as_lines}

-- the two activities of the first example: [3, 5] from 0 to 3, and [4, 6] from 3 to 0, at period 10
abbrev there : Bounds
there = record { lower = pos 3; upper = pos 5 }

abbrev back : Bounds
back = record { lower = pos 4; upper = pos 6 }

there_tension : tension_of 10 there 0 3 ≡ pos 3
there_tension = refl

there_met : is_met 10 there 0 3 ≡ true
there_met = refl

back_slack : slack_of 10 back 3 0 ≡ 3
back_slack = refl

back_tension : tension_of 10 back 3 0 ≡ pos 7
back_tension = refl

back_unmet : is_met 10 back 3 0 ≡ false
back_unmet = refl

-- a remainder that truncates gives another slack than 3
truncated : unsigned_abs (int_rem (pos 0 -ℤ pos 3 -ℤ pos 4) (pos 10)) ≡ 7
truncated = refl

-- a span of a whole period and more admits each pair, also below zero
full_span : is_met 10 (record { lower = negsuc 1; upper = pos 7 }) 9 0 ≡ true
full_span = refl

-- the residues that spans admit, in their order
partners_listed : partners_of 10 (record { lower = negsuc 1; upper = pos 1 }) 0 ≡ 8 ∷ 9 ∷ 0 ∷ 1 ∷ []
partners_listed = refl

all_partners : partners_of 10 (record { lower = pos 7; upper = pos 16 }) 0 ≡ 7 ∷ 8 ∷ 9 ∷ 0 ∷ 1 ∷ 2 ∷ 3 ∷ 4 ∷ 5 ∷ 6 ∷ []
all_partners = refl

sources_listed : sources_of 10 there 4 ≡ 1 ∷ 0 ∷ 9 ∷ []
sources_listed = refl

leading_zeros : number_value (codes "-0012") ≡ Some (negsuc 11)
leading_zeros = refl

minus_zero : number_value (codes "-0") ≡ Some (pos 0)
minus_zero = refl

plus_sign : number_value (codes "+7") ≡ Some (pos 7)
plus_sign = refl

sign_alone : number_value (codes "+") ≡ None
sign_alone = refl

two_signs : number_value (codes "--1") ≡ None
two_signs = refl

digit_and_letter : number_value (codes "1x") ≡ None
digit_and_letter = refl

no_digit : number_value [] ≡ None
no_digit = refl

many_digits : number_value (codes "99999999999999999999999999999999999999999999999999") ≡ Some (pos 99999999999999999999999999999999999999999999999999)
many_digits = refl

one_line : as_lines (words_line (codes "cost" ∷ codes "3" ∷ []) ∷ []) ≡ codes "cost 3\n"
one_line = refl

two_fields : separated (codes "; ") (codes "1" ∷ codes "0" ∷ []) ≡ codes "1; 0"
two_fields = refl

first_refusal : unless_refused {E = Refusal} {X = ℕ} (when false no.TooManyEvents ∷ when true (no.TimeOutOfRange 12) ∷ when true no.Memory ∷ []) 0 ≡ Err (no.TimeOutOfRange 12)
first_refusal = refl
