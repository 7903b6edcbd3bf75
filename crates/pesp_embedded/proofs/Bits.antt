-- The bits of a byte are the tests that it was made of.
use Rattle.std.proofs.Common.{◌≡◌, ◌↔◌, ℕ, zero, suc, ◌+◌, ◌*◌, ◌/◌, ◌%◌, ◌^◌, ◌<◌, ◌≤◌, Bool, true, false, cond, bit_or, length, List, [], ◌∷◌, ◌++◌, get_or, set, IsTrue, max, min, add-one, refl, sym, ap, ◌∙◌, inl, inr, arith}
use Rattle.std.specs.Int.{bit_at}
use Rattle.std.specs.Int.Bits.{or_zero_r}
use Rattle.std.proofs.lemmas.Bool.{cases_eq, cases_lt, false≢true}
use Rattle.std.proofs.lemmas.List.{get_or_past}
use Rattle.std.proofs.lemmas.List.FromFn.{get_or-map-range_with_len, length-map-range_with_len, map-range_with_len_more, take-map-range_with_len}
use Rattle.std.proofs.lemmas.Nat.{pow_below}
use Rattle.std.proofs.lemmas.Nat.Bits.{bit_at-zero, bit_at-pow_same, bit_at-pow_other, bit_at_or}
use Rattle.pesp_base.specs.declared.refusal.Refusal.TheVariants as no
use Rattle.pesp_instance.specs.Network.{Network, has_event}
use Rattle.pesp_domains.specs.Domains.{IsDomain, holds}
use Rattle.pesp_shell_replies.specs.Legal.{Work}
use Rattle.pesp_embedded.specs.Answered.{fronted}
use Rattle.pesp_embedded.specs.Bits.{AreBits, bit_of, bits_from, byte_in, bytes_in}
use Rattle.pesp_embedded.specs.Faults.{told_fault}
use Rattle.pesp_embedded.specs.Numbers.{told_done}
use Rattle.pesp_embedded.specs.Sessions.{IsDomainShown}
use Rattle.pesp_embedded.specs.declared.fault.Fault.TheVariants as fault
use Rattle.pesp_embedded.specs.declared.told.Told.{Told}
use Rattle.pesp_embedded.proofs.Fronts.{fronted_first, fronted_more}

-- ---- how they are made

-- one test more, which holds
pub bit_put : (row : List Bool) (first n byte next : ℕ) → byte ≡ bits_from row first n → holds row (first + n) ≡ true → n < 8 → next ≡ bit_or byte (1 * 2 ^ n % 256) → next ≡ bits_from row first (n + 1)
bit_put row first n byte next was is l at =
    let small : 2 ^ n < 256 = pow_below n 8 l in
    let same : 1 * 2 ^ n % 256 ≡ 2 ^ n = omega (arith, small) in
    rw (add-one n, is, at, was, same) refl

-- one test more, which does not hold
pub bit_left : (row : List Bool) (first n byte next : ℕ) → byte ≡ bits_from row first n → holds row (first + n) ≡ false → next ≡ byte → next ≡ bits_from row first (n + 1)
bit_left row first n byte next was is at = rw (add-one n, is) (at ∙ was ∙ sym (or_zero_r (bits_from row first n)))

-- one byte more in front of the room
pub byte_put : (row : List Bool) (place byte : ℕ) (room now : List ℕ) → now ≡ fronted (bytes_in row place) room → place < length room → byte ≡ byte_in row place → set now place byte ≡ fronted (bytes_in row (place + 1)) room
byte_put row place byte room now was l is =
    fronted_more (bytes_in row place) place byte room now was (length-map-range_with_len (byte_in row) 0 place) l
    ∙ ap (λ shown. fronted shown room) (ap (λ b. bytes_in row place ++ b ∷ []) is ∙ sym (map-range_with_len_more (byte_in row) 0 place place (omega arith)))

-- all bytes, or as many as the room holds
pub bytes_put : (row : List Bool) (place count : ℕ) (room now : List ℕ) → now ≡ fronted (bytes_in row place) room → place ≡ min count (length room) → now ≡ fronted (bytes_in row count) room
bytes_put row place count room now was last =
    elim (cases_lt count (length room)) [
      | inl fits ↦ was ∙ ap (λ n. fronted (bytes_in row n) room) (omega (arith, last, fits))
      | inr cut ↦
          let full : place ≡ length room = omega (arith, last, cut) in
          let first = take-map-range_with_len (byte_in row) 0 count place (omega (arith, full, cut)) in
          was ∙ ap (λ shown. fronted shown room) (sym first) ∙ fronted_first place (bytes_in row count) room full (rw (length-map-range_with_len (byte_in row) 0 count) (omega (arith, full, cut)))
    ]

-- ---- what they tell

-- a test at its bit
abbrev set_at : Bool → ℕ → ℕ
set_at b n = cond b (2 ^ n) 0

-- the other bits of a test are not set
other_bit : (b : Bool) (n i : ℕ) → (i ≡ n → ⊥) → bit_at (set_at b n) i ≡ 0
other_bit true n i apart = bit_at-pow_other n i apart
other_bit false n i apart = bit_at-zero i

-- its own bit is set where it holds
own_bit : (b : Bool) (n : ℕ) → bit_at (set_at b n) n ≡ cond b 1 0
own_bit true n = bit_at-pow_same n
own_bit false n = bit_at-zero n

-- no bit is set from the number of tests on
above : (row : List Bool) (first n i : ℕ) → n ≤ i → bit_at (bits_from row first n) i ≡ 0
above row first zero i le = bit_at-zero i
above row first (suc n) i le =
    let before = above row first n i (omega (arith, le)) in
    let this = other_bit (holds row (first + n)) n i (λ same. omega (arith, le, same)) in
    bit_at_or (bits_from row first n) (set_at (holds row (first + n)) n) i ∙ rw (before, this) refl

-- the bits are the tests
bits_are : (row : List Bool) (first n i : ℕ) → i < n → bit_at (bits_from row first n) i ≡ cond (holds row (first + i)) 1 0
bits_are row first zero i l = absurd (omega (arith, l))
bits_are row first (suc n) i l =
    bit_at_or (bits_from row first n) (set_at (holds row (first + n)) n) i ∙ elim (cases_eq i n) [
      | inl same ↦ rw (same, above row first n n (omega arith), own_bit (holds row (first + n)) n) (last (holds row (first + n)))
      | inr apart ↦ rw (bits_are row first n i (omega (arith, l, apart)), other_bit (holds row (first + n)) n i apart) (before (holds row (first + i)))
    ]
  where
    last : (b : Bool) → max 0 (cond b 1 0) ≡ cond b 1 0
    last true = refl
    last false = refl

    before : (b : Bool) → max (cond b 1 0) 0 ≡ cond b 1 0
    before true = refl
    before false = refl

-- a bit is set where its test holds
bit_tells : (b : Bool) (n : ℕ) → n ≡ cond b 1 0 → (n ≡ 1) ↔ IsTrue b
bit_tells true n is = (λ _. refl, λ _. is)
bit_tells false n is = (λ one. absurd (omega (arith, is, one)), λ holds. absurd (false≢true holds))

-- the bits of so many bytes are the tests of the row
bits_tell : (row : List Bool) (period r : ℕ) → length row ≡ period → (bit_of (bytes_in row ((period + 7) / 8)) r ≡ 1) ↔ IsTrue (holds row r)
bits_tell row period r long = bit_tells (holds row r) (bit_of (bytes_in row ((period + 7) / 8)) r) (elim (cases_lt (r / 8) ((period + 7) / 8)) [
  | inl l ↦
      let byte : get_or (bytes_in row ((period + 7) / 8)) (r / 8) 0 ≡ byte_in row (r / 8) = get_or-map-range_with_len (byte_in row) 0 ((period + 7) / 8) (r / 8) (r / 8) 0 l (omega arith) in
      let place : 8 * (r / 8) + r % 8 ≡ r = omega arith in
      rw byte (bits_are row (8 * (r / 8)) 8 (r % 8) (omega arith) ∙ ap (λ k. cond (holds row k) 1 0) place)
  | inr g ↦
      let byte : get_or (bytes_in row ((period + 7) / 8)) (r / 8) 0 ≡ 0 = get_or_past (bytes_in row ((period + 7) / 8)) (r / 8) 0 (rw (length-map-range_with_len (byte_in row) 0 ((period + 7) / 8)) g) in
      let none : holds row r ≡ false = get_or_past row r false (omega (arith, g, long)) in
      rw (byte, none) (bit_at-zero (r % 8))
])

-- the bytes of an event's domain are its bits
are_bits : (I : Network) (e : ℕ) (row : List Bool) (count : ℕ) → IsDomain I [] e row → count ≡ (I.period + 7) / 8 → AreBits I e (bytes_in row count)
are_bits I e row count domain all = rw all record {
  long = length-map-range_with_len (byte_in row) 0 ((I.period + 7) / 8);
  exact = λ r. let bit = bits_tell row I.period r domain.long in (λ one. (domain.exact r).0 (bit.0 one), λ is. bit.1 ((domain.exact r).1 is));
}

-- they are what is shown of an event
pub domain_shown : (w : Work) (e : ℕ) (row : List Bool) (count : ℕ) (room now : List ℕ) (told : Told) → true ≡ has_event w.instance e → IsDomain w.instance [] e row
    → count ≡ (w.instance.period + 7) / 8 → now ≡ fronted (bytes_in row count) room → told ≡ told_done count → IsDomainShown w e room now told
domain_shown w e row count room now told has domain all shown done = rw (← has) (
  bytes_in row count,
  are_bits w.instance e row count domain all,
  record {
    shown = shown;
    tells = done ∙ ap told_done (sym (length-map-range_with_len (byte_in row) 0 count));
  },
)

-- and what is shown of a number that is none
pub none_shown : (w : Work) (e : ℕ) (room now : List ℕ) (told : Told) → false ≡ has_event w.instance e → now ≡ room → told ≡ told_fault (fault.Refused (no.NoEvent e)) → IsDomainShown w e room now told
none_shown w e room now told has same refused = rw (← has) (same, refused)
