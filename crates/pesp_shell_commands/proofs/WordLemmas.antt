-- Words of lines: short names, and numbers within their ranges.
use Rattle.std.proofs.Common.{◌≡◌, ℕ, ◌+◌, ◌^◌, ◌<◌, ◌≤◌, Bool, true, false, List, [], ◌∷◌, length, not, decimal, ℤ, pos, negsuc, ◌≤ℤ◌, Some, refl, arith}
use Rattle.std.specs.Prelude.{int_lt}
use Rattle.std.specs.Fmt.{signed_decimal}
use Rattle.std.specs.Int.Signed.{mag}
use Rattle.std.specs.List.{list_all}
use Rattle.std.proofs.lemmas.Bool.{ne_eqb, false≢true}
use Rattle.std.proofs.lemmas.Fmt.{decimal_nonempty, length-decimal-le, length_signed_le}
use Rattle.std.proofs.lemmas.Int.{ints}
use Rattle.pesp_base.proofs.Decimals.{AreBetween, decimal_between, number_value-decimal, number_value-signed_decimal, signed_decimal_between}
use Rattle.pesp_base.specs.Texts.{number_value}
use Rattle.pesp_base.specs.Limits.{greatest_bound, least_bound}
use Rattle.pesp_shell_io.specs.Lines.{is_line_feed, IsUncut}
use Rattle.pesp_shell_commands.specs.Words.{is_space}
use Rattle.pesp_shell_commands.specs.Parsed.{Range, bound}
use Rattle.pesp_base.proofs.Laws.{numbers_in_order}
use Rattle.pesplib_writer.proofs.FieldLaws.{signed_nonempty}

-- a short word of one line
pub record IsPlain (word : List ℕ) : Type 0 where
  pub unspaced : IsUncut is_space word
  pub one_line : IsUncut is_line_feed word
  pub some : 0 < length word
  pub short : length word ≤ 11

-- whether a piece is uncut is computed
uncut_where : (ends : ℕ → Bool) (word : List ℕ) → list_all (λ b. not (ends b)) word ≡ true → IsUncut ends word
uncut_where ends [] all = tt
uncut_where ends (b ∷ word) all =
    elim (ends b) as (λ e. ends b ≡ e → IsUncut ends (b ∷ word)) [
      | true ↦ λ is. absurd (false≢true (rw is at all))
      | false ↦ λ is. (is, uncut_where ends word (rw is at all))
    ] refl

-- a name is plain by computation
pub plain_name : (word : List ℕ) → list_all (λ b. not (is_space b)) word ≡ true → list_all (λ b. not (is_line_feed b)) word ≡ true
    → 0 < length word → length word ≤ 11 → IsPlain word
plain_name word unspaced one_line some short = record {
  unspaced = uncut_where is_space word unspaced;
  one_line = uncut_where is_line_feed word one_line;
  some = some;
  short = short;
}

not_space : (b : ℕ) → 45 ≤ b → is_space b ≡ false
not_space b h = rw (ne_eqb b 32 (λ e. absurd (omega arith)), ne_eqb b 9 (λ e. absurd (omega arith)), ne_eqb b 13 (λ e. absurd (omega arith))) refl

not_line_feed : (b : ℕ) → 45 ≤ b → is_line_feed b ≡ false
not_line_feed b h = ne_eqb b 10 (λ e. absurd (omega arith))

uncut_between : (ends : ℕ → Bool) → ((b : ℕ) → 45 ≤ b → ends b ≡ false) → (low : ℕ) → 45 ≤ low → (word : List ℕ) → AreBetween low 57 word → IsUncut ends word
uncut_between ends passes low h [] between = tt
uncut_between ends passes low h (b ∷ word) between = (passes b (omega (arith, between.0)), uncut_between ends passes low h word between.2)

-- digits and a minus are plain
plain_between : (low : ℕ) → 45 ≤ low → (word : List ℕ) → AreBetween low 57 word → 0 < length word → length word ≤ 11 → IsPlain word
plain_between low h word between some short = record {
  unspaced = uncut_between is_space not_space low h word between;
  one_line = uncut_between is_line_feed not_line_feed low h word between;
  some = some;
  short = short;
}

-- so are numbers of at most ten digits
pub plain_decimal : (n : ℕ) → n < 10 ^ 10 → IsPlain (decimal n)
plain_decimal n h =
    plain_between 48 (omega arith) (decimal n) (decimal_between n (omega (arith, h))) (decimal_nonempty n (omega (arith, h)))
    (omega (arith, length-decimal-le 10 n (omega arith) h (omega (arith, h))))

plain_signed : (z : ℤ) → mag z + 1 < 10 ^ 10 → IsPlain (signed_decimal z)
plain_signed z h =
    plain_between 45 (omega arith) (signed_decimal z) (signed_decimal_between z (omega (arith, h))) (signed_nonempty z (omega (arith, h)))
    (length_signed_le 10 z h (omega (arith, h)))

-- a word writes a number of a range
pub record IsNumber (range : Range) (word : List ℕ) (z : ℤ) : Type 0 where
  pub plain : IsPlain word
  pub reads : number_value word ≡ Some z
  pub not_below : int_lt z range.low ≡ false
  pub not_above : int_lt range.high z ≡ false

pub not_less : (y z : ℤ) → y ≤ℤ z → int_lt z y ≡ false
not_less y z h = grind (arith, ints)

-- a number without a sign
pub decimal_number : (high n : ℕ) → n ≤ high → high < 10 ^ 10 → IsNumber (record { low = pos 0; high = pos high }) (decimal n) (pos n)
decimal_number high n h most = record {
  plain = plain_decimal n (omega (arith, h, most));
  reads = number_value-decimal n (omega (arith, h, most));
  not_below = not_less (pos 0) (pos n) (numbers_in_order 0 n (omega arith));
  not_above = not_less (pos n) (pos high) (numbers_in_order n high h);
}

small_bound : (z : ℤ) → least_bound ≤ℤ z → z ≤ℤ greatest_bound → mag z + 1 < 10 ^ 10
small_bound (pos n) low high = omega (arith, ints, high)
small_bound (negsuc n) low high = omega (arith, ints, low)

-- a bound of a span
pub signed_number : (z : ℤ) → least_bound ≤ℤ z → z ≤ℤ greatest_bound → IsNumber bound (signed_decimal z) z
signed_number z low high =
    let small : mag z + 1 < 10 ^ 10 = small_bound z low high in
    record {
      plain = plain_signed z small;
      reads = number_value-signed_decimal z (omega (arith, small));
      not_below = not_less least_bound z low;
      not_above = not_less z greatest_bound high;
    }
