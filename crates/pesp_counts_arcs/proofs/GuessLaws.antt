-- Guesses are found by the last bits of numbers, and stay where the list is copied behind itself.
use Rattle.std.proofs.Common.{◌≡◌, ◌≢◌, ◌⊎◌, ◌+◌, ◌-◌, ◌*◌, ◌%◌, ◌/◌, ◌^◌, ◌<◌, ◌++◌, ℕ, zero, suc, List, [], ◌∷◌, Some, length, take, true, false, refl, sym, ap, ◌∙◌, inl, inr, get_or, arith, length-append}
use Rattle.std.specs.Int.{IsPowerOfTwo}
use Rattle.std.specs.Int.Bits.{bit_and}
use Rattle.std.specs.List.{slice_get}
use Rattle.slab.specs.Slab.{Slab}
use Rattle.std.proofs.Math.Arith.{mod-mul}
use Rattle.std.proofs.Math.ListN.{set, length-set}
use Rattle.std.proofs.Math.Nat.{mod-eq_of_lt, mod-zero, two-pow-succ}
use Rattle.std.proofs.Math.Pow.{pow-sub-lt}
use Rattle.std.proofs.Math.Seq.{take-append_seam}
use Rattle.std.proofs.lemmas.Nat.{and_mask}
use Rattle.std.proofs.lemmas.Option.{slice_get-get_or, slice_get_within}
use Rattle.std.proofs.lemmas.Bool.{cases_eq, false≢true, true≢false}
use Rattle.std.proofs.lemmas.List.{get_or-set_other, get_or-set_same}
use Rattle.pesp_counts_arcs.specs.Places.{AreByBits, AreGuessed, IsGuessed, guess_of}

slice_get-append_left : (xs ys : List ℕ) (i p : ℕ) → slice_get xs i ≡ Some p → slice_get (xs ++ ys) i ≡ Some p
slice_get-append_left [] ys i p is = absurd (cc)
slice_get-append_left (x ∷ xs) ys zero p is = is
slice_get-append_left (x ∷ xs) ys (suc i) p is = slice_get-append_left xs ys i p is

slice_get-append_right : (xs ys : List ℕ) (i : ℕ) → slice_get (xs ++ ys) (length xs + i) ≡ slice_get ys i
slice_get-append_right [] ys i =
    let none : 0 + i ≡ i = omega arith in
    ap (slice_get ys) none
slice_get-append_right (x ∷ xs) ys i =
    let one : length (x ∷ xs) + i ≡ suc (length xs + i) = omega arith in
    ap (slice_get (x ∷ xs ++ ys)) one ∙ slice_get-append_right xs ys i

at_copy : (guesses : List ℕ) (k i p : ℕ) → k < 2 → slice_get guesses i ≡ Some p → slice_get (guesses ++ guesses) (k * length guesses + i) ≡ Some p
at_copy guesses zero i p few is =
    let none : 0 * length guesses + i ≡ i = omega arith in
    ap (slice_get (guesses ++ guesses)) none ∙ slice_get-append_left guesses guesses i p is
at_copy guesses (suc zero) i p few is =
    let one : 1 * length guesses + i ≡ length guesses + i = omega arith in
    ap (slice_get (guesses ++ guesses)) one ∙ slice_get-append_right guesses guesses i ∙ is
at_copy guesses (suc (suc k)) i p few is = absurd (omega (arith, few))

-- what is guessed for a number stays
pub guess_of-copied : (guesses : List ℕ) (n p : ℕ) → guess_of guesses n ≡ Some p → guess_of (guesses ++ guesses) n ≡ Some p
guess_of-copied guesses n p is =
    let within : n % length guesses < length guesses = slice_get_within guesses (n % length guesses) p is in
    let some : 0 < length guesses = omega arith in
    let two : 0 < 2 = omega arith in
    let twice : length (guesses ++ guesses) ≡ 2 * length guesses = omega (arith, length-append guesses guesses) in
    let index : n % length (guesses ++ guesses) ≡ (n / length guesses % 2) * length guesses + n % length guesses = ap (λ m. n % m) twice ∙ mod-mul n two some in
    let few : n / length guesses % 2 < 2 = omega arith in
    ap (slice_get (guesses ++ guesses)) index ∙ at_copy guesses (n / length guesses % 2) (n % length guesses) p few is

-- twice as many are as many as a power of two again
pub AreByBits-copied : (guesses : List ℕ) → AreByBits guesses → AreByBits (guesses ++ guesses)
AreByBits-copied guesses (inl none) = inl (omega (arith, length-append guesses guesses))
AreByBits-copied guesses (inr (k, power)) = inr (suc k, omega (arith, length-append guesses guesses, power, two-pow-succ k))

-- the last bits of a number are what is left of it
pub last_bits : (n count : ℕ) → (count ≡ 0) ⊎ IsPowerOfTwo count → n < 18446744073709551616 → count < 18446744073709551616 → bit_and n ((count + 18446744073709551615) % 18446744073709551616) ≡ n % count
last_bits n count (inl none) small _ =
    rw none (and_mask n 64 ∙ mod-eq_of_lt small ∙ sym (mod-zero n))
last_bits n count (inr (k, power)) _ small =
    let one : 0 < 1 = omega arith in
    let some : 0 < 2 ^ k = omega (arith, pow-sub-lt k one) in
    let mask : (count + 18446744073709551615) % 18446744073709551616 ≡ 2 ^ k - 1 = omega (arith, power) in
    rw (mask, power) (and_mask n k)

module _ (guesses : List ℕ) (n p : ℕ) (some : 0 < length guesses) where
  within : (m : ℕ) → m % length guesses < length guesses
  within m = omega arith

  -- what stands at the index of a number is guessed for it
  pub guess_of-at : (d : ℕ) → guess_of guesses n ≡ Some (get_or guesses (n % length guesses) d)
  guess_of-at d = slice_get-get_or guesses (n % length guesses) d (within n)

  as_many : length (set guesses (n % length guesses) p) ≡ length guesses
  as_many = length-set guesses (n % length guesses) p

  -- a written guess is that of each number with these last bits
  guess_of-written : (m : ℕ) → m % length guesses ≡ n % length guesses → guess_of (set guesses (n % length guesses) p) m ≡ Some p
  guess_of-written m same =
      let at : get_or (set guesses (n % length guesses) p) (m % length guesses) 0 ≡ p = rw same (get_or-set_same guesses (n % length guesses) p 0 (within n)) in
      let low : m % length guesses < length (set guesses (n % length guesses) p) = rw as_many (within m) in
      ap (λ k. slice_get (set guesses (n % length guesses) p) (m % k)) as_many ∙ slice_get-get_or (set guesses (n % length guesses) p) (m % length guesses) 0 low ∙ ap (λ k. Some k) at

  guess_of-unwritten : (m : ℕ) → m % length guesses ≢ n % length guesses → guess_of (set guesses (n % length guesses) p) m ≡ guess_of guesses m
  guess_of-unwritten m apart =
      let at : get_or (set guesses (n % length guesses) p) (m % length guesses) 0 ≡ get_or guesses (m % length guesses) 0 = get_or-set_other guesses (n % length guesses) (m % length guesses) p 0 apart in
      let low : m % length guesses < length (set guesses (n % length guesses) p) = rw as_many (within m) in
      ap (λ k. slice_get (set guesses (n % length guesses) p) (m % k)) as_many ∙ slice_get-get_or (set guesses (n % length guesses) p) (m % length guesses) 0 low ∙ ap (λ k. Some k) at ∙ sym (slice_get-get_or guesses (m % length guesses) 0 (within m))

  -- the guess was no number's own
  pub AreGuessed-written : (numbers : Slab ℕ) → numbers.vacant_key ≡ p → ((m q : ℕ) → m % length guesses ≡ n % length guesses → IsGuessed numbers guesses m q → ⊥) → AreGuessed numbers guesses (set guesses (n % length guesses) p) n true
  AreGuessed-written numbers vacant free = record {
    its = λ _. guess_of-written n refl ∙ ap (λ k. Some k) (sym vacant);
    lost = λ no. absurd (true≢false no);
    stays = λ m q guessed. elim (cases_eq (m % length guesses) (n % length guesses)) [ inl same ↦ absurd (free m q same guessed) | inr apart ↦ guess_of-unwritten m apart ∙ guessed.0 ];
    was = λ m g guess. elim (cases_eq (m % length guesses) (n % length guesses)) [ inl same ↦ inr (guess_of-written m same ∙ ap (λ k. Some k) (sym vacant)) | inr apart ↦ inl (guess_of-unwritten m apart ∙ guess) ];
    many = as_many;
  }

-- another place stays guessed for the number
pub AreGuessed-lost : (guesses : List ℕ) (n d : ℕ) (numbers : Slab ℕ) → 0 < length guesses → get_or guesses (n % length guesses) d ≢ numbers.vacant_key → AreGuessed numbers guesses guesses n false
AreGuessed-lost guesses n d numbers some apart = record {
  its = λ no. absurd (false≢true no);
  lost = λ _. (get_or guesses (n % length guesses) d, guess_of-at guesses n 0 some d, apart);
  stays = λ m q guessed. guessed.0;
  was = λ m h guess. inl guess;
  many = refl;
}

-- one place is guessed for all numbers with the same last bits
pub guess_of-same : (guesses : List ℕ) (n m q : ℕ) → 0 < length guesses → m % length guesses ≡ n % length guesses → guess_of guesses m ≡ Some q → get_or guesses (n % length guesses) 0 ≡ q
guess_of-same guesses n m q some same is =
    let both : Some (get_or guesses (m % length guesses) 0) ≡ Some q = sym (guess_of-at guesses m 0 some 0) ∙ is in
    let at : get_or guesses (m % length guesses) 0 ≡ q = cc in
    rw (← same) at

pub by_bits-many : (before after : List ℕ) → AreByBits before → length after ≡ length before → AreByBits after
by_bits-many before after is many = rw many is

-- what was written to the whole list is the list
pub written_whole : (n : ℕ) (slice after rest : List ℕ) → length after ≡ length slice → length slice ≡ n → take n (after ++ rest) ≡ after
written_whole n slice after rest many all = ap (λ k. take k (after ++ rest)) (sym (many ∙ all)) ∙ take-append_seam after rest
