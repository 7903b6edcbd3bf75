-- What `decimal` and `signed_decimal` write reads back as the number that it was written for.
use Rattle.std.proofs.Common.{◌≡◌, ℕ, suc, ◌+◌, ◌-◌, ◌*◌, ◌^◌, ◌<◌, ◌≤◌, true, false, List, [], ◌∷◌, length, fold, decimal, ℤ, pos, negsuc, neg_ℤ, Some, option_map, refl, ap, ◌∙◌, arith, ◌==◌}
use Rattle.std.specs.Char.{is_ascii_digit, digit_value}
use Rattle.std.specs.Fmt.{signed_decimal}
use Rattle.std.specs.Int.Signed.{mag}
use Rattle.std.specs.List.{list_all}
use Rattle.std.specs.Str.Parse.{AllDigits, digits_value_after}
use Rattle.std.proofs.lemmas.Fmt.{decimal_is_IsNumeral, decimal_nonempty}
use Rattle.std.proofs.lemmas.Str.{digit_value_digit}
use Rattle.std.proofs.lemmas.Str.Parse.{digit_from_value}
use Rattle.pesp_base.specs.Texts.{digits_value, number_value}

is_digit : (c : ℕ) → digit_value c < 10 → is_ascii_digit c ≡ true
is_digit c h = grind (arith, digit_from_value c h)

are_digits : (ds : List ℕ) → AllDigits 10 ds → list_all is_ascii_digit ds ≡ true
are_digits [] d = refl
are_digits (c ∷ cs) d = rw (is_digit c d.0) (are_digits cs d.1)

one_more : (n c : ℕ) → digit_value c < 10 → 10 * n + (c - 48) ≡ n * 10 + digit_value c
one_more n c h = omega (arith, digit_value_digit c (digit_from_value c h))

value_is : (n : ℕ) (ds : List ℕ) → AllDigits 10 ds → fold (λ m c. 10 * m + (c - 48)) n ds ≡ digits_value_after 10 n ds
value_is n [] d = refl
value_is n (c ∷ cs) d = value_is (10 * n + (c - 48)) cs d.1 ∙ ap (λ m. digits_value_after 10 m cs) (one_more n c d.0)

digits_value_of : (ds : List ℕ) → 0 < length ds → AllDigits 10 ds → digits_value ds ≡ Some (digits_value_after 10 0 ds)
digits_value_of [] some d = absurd (omega (arith, some))
digits_value_of (c ∷ cs) some d = rw (are_digits (c ∷ cs) d) (ap Some (value_is 0 (c ∷ cs) d))

pub digits_value-decimal : (n : ℕ) → n < 2 ^ 64 → digits_value (decimal n) ≡ Some n
digits_value-decimal n h =
    digits_value_of (decimal n) (decimal_nonempty n h) (decimal_is_IsNumeral n h).0.1 ∙ ap Some (decimal_is_IsNumeral n h).1

-- digits alone are a number without a sign
no_sign : (ds : List ℕ) → 0 < length ds → AllDigits 10 ds → number_value ds ≡ option_map pos (digits_value ds)
no_sign [] some d = absurd (omega (arith, some))
no_sign (c ∷ cs) some d =
    let a : (c == 43) ≡ false = grind (arith, digit_from_value c d.0) in
    let b : (c == 45) ≡ false = grind (arith, digit_from_value c d.0) in
    rw a (rw b refl)

pub number_value-decimal : (n : ℕ) → n < 2 ^ 64 → number_value (decimal n) ≡ Some (pos n)
number_value-decimal n h =
    no_sign (decimal n) (decimal_nonempty n h) (decimal_is_IsNumeral n h).0.1 ∙ ap (option_map pos) (digits_value-decimal n h)

pub number_value-signed_decimal : (z : ℤ) → mag z < 2 ^ 63 → number_value (signed_decimal z) ≡ Some z
number_value-signed_decimal (pos n) h = number_value-decimal n (omega arith)
number_value-signed_decimal (negsuc n) h = ap (option_map (λ m. neg_ℤ (pos m))) (digits_value-decimal (suc n) (omega arith))

-- each byte lies between two others
abbrev pub AreBetween : ℕ → ℕ → List ℕ → Type 0
AreBetween low high [] = Unit {0}
AreBetween low high (b ∷ bs) = (low ≤ b) × (b ≤ high) × AreBetween low high bs

digits_between : (low : ℕ) → low ≤ 48 → (ds : List ℕ) → AllDigits 10 ds → AreBetween low 57 ds
digits_between low h [] d = tt
digits_between low h (c ∷ cs) d =
    let r = digit_from_value c d.0 in
    (omega (arith, r, h), omega (arith, r), digits_between low h cs d.1)

-- a number without a sign is written in digits
pub decimal_between : (n : ℕ) → n < 2 ^ 64 → AreBetween 48 57 (decimal n)
decimal_between n h = digits_between 48 (omega arith) (decimal n) (decimal_is_IsNumeral n h).0.1

-- a number with a sign is written in digits and a minus
pub signed_decimal_between : (z : ℤ) → mag z < 2 ^ 63 → AreBetween 45 57 (signed_decimal z)
signed_decimal_between (pos n) h = digits_between 45 (omega arith) (decimal n) (decimal_is_IsNumeral n (omega arith)).0.1
signed_decimal_between (negsuc n) h =
    (omega arith, omega arith, digits_between 45 (omega arith) (decimal (suc n)) (decimal_is_IsNumeral (suc n) (omega arith)).0.1)
