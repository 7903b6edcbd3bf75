-- What the getters of the matches read, where the command took the words.
use Rattle.std.proofs.Common.{◌≡◌, ◌∙◌, ◌==◌, ◌∷◌, [], ℕ, ◌≤◌, Bool, true, false, cond, drop, List, Option, Some, None, Result, Ok, Err, is_some, option_map, refl, sym, ap, subst, arith, inl, inr, codes}
use Rattle.std.specs.Prelude.{IsSome, pos, unwrap_or}
use Rattle.std.specs.Option.{SomeIff}
use Rattle.std.specs.Str.Parse.{ExplainsUnsignedError, HasUnsignedDigitsIfOk, ParsesUnsigned, signed_digits_value, starts_with_minus}
use Rattle.std.proofs.lemmas.Int.{ints}
use Rattle.std.proofs.lemmas.Option.{same_Some}
use Rattle.clap.specs.Faults.{fault_of, is_simple_and_free}
use Rattle.clap.specs.Kinds.{HasKind}
use Rattle.clap.specs.declared.error.Error.{Error}
use Rattle.clap.specs.Lexer.{without_minus}
use Rattle.clap.specs.Matches.{ReadsOne, found_of, one_text}
use Rattle.clap.specs.Simple.{App, HasMatchesOf, is_simple, matches_of}
use Rattle.clap.specs.Takes.{is_given}
use Rattle.clap.specs.Values.{IsSignedIn}
use Rattle.clap.specs.Walk.{Row, Text, first_of, one_of, rows_of}
use Rattle.clap.specs.declared.parser.matches.ArgMatches.{ArgMatches}
use Rattle.clap.proofs.WalkLemmas.{one_text-rows}
use Rattle.pesp_base.specs.Limits.{greatest_period, least_period}
use Rattle.pesp_shell.specs.Settings.{pespbench}
use Rattle.pesp_shell.proofs.FaultlessSettings.{HasPeriod, ReadsFlag, line_has_period}

-- ---- the command

simple_and_free : is_simple_and_free pespbench ≡ true
unfolding pespbench
simple_and_free = refl

simple : is_simple pespbench ≡ true
unfolding pespbench
simple = refl

pub taken_has_no_fault : (a : App) (words : List Text) → a ≡ pespbench → (is_simple_and_free a ≡ true → fault_of a words ≡ []) → fault_of pespbench words ≡ []
taken_has_no_fault a words is kinds = ap (λ (x : App). fault_of x words) (sym is) ∙ kinds (ap is_simple_and_free is ∙ simple_and_free)

pub refused_by : (a : App) (words : List Text) (e : Error) → a ≡ pespbench → (is_simple_and_free a ≡ true → HasKind (fault_of a words) e)
    → HasKind (fault_of pespbench words) e
refused_by a words e is kinds = subst (λ (x : App). HasKind (fault_of x words) e) is (kinds (ap is_simple_and_free is ∙ simple_and_free))

pub taken_rows : (a : App) (words : List Text) (m : ArgMatches) → a ≡ pespbench → HasMatchesOf a words m → rows_of (found_of m) ≡ matches_of pespbench words
taken_rows a words m is has = (has (ap is_simple is ∙ simple)).0 ∙ ap (λ (x : App). matches_of x words) is

-- ---- the number that a period writes

pos_is : (n k : ℕ) → pos n ≡ pos k → n ≡ k
pos_is n k e = cc

without_minus-cond : (t : Text) → without_minus t ≡ cond (starts_with_minus t) (drop 1 t) t
without_minus-cond [] = refl
without_minus-cond (x ∷ xs) = go (x == 45)
  where
    go : (b : Bool) → unwrap_or (cond b (Some xs) None) (x ∷ xs) ≡ cond b xs (x ∷ xs)
    go true = refl
    go false = refl

-- a text within limits above zero reads as the number that it writes
pub limited_reads : (E : Type 0) (G : List ℕ → Result ℕ E → Type 0) (t : Text) (r : Option ℕ)
    → ReadsOne G (without_minus t) r → ((u : Text) (x : Result ℕ E) → G u x → ParsesUnsigned 16 10 u x) → IsSignedIn (pos least_period) (pos greatest_period) t
    → (n : ℕ) × (r ≡ Some n) × (least_period ≤ n) × (n ≤ greatest_period) × (signed_digits_value 10 t ≡ pos n)
limited_reads E G t r read only passed = go (starts_with_minus t) refl r (subst (λ (u : Text). ReadsOne G u r) (without_minus-cond t) read)
  where
    go : (b : Bool) → starts_with_minus t ≡ b → (o : Option ℕ) → ReadsOne G (cond (starts_with_minus t) (drop 1 t) t) o
        → (n : ℕ) × (o ≡ Some n) × (least_period ≤ n) × (n ≤ greatest_period) × (signed_digits_value 10 t ≡ pos n)
    go true minus o h =
        let low_ok = rw minus at passed.2 in
        absurd (omega (arith, ints))
    go false minus (Some v) h =
        let low_ok = rw minus at passed.2 in
        let high_ok = rw minus at passed.3 in
        let parsed = only t (Ok v) (rw minus at h) in
        (v, refl, rw parsed.1 (omega (arith, ints)), rw parsed.1 (omega (arith, ints)), rw minus (ap pos (sym parsed.1)))
    go false minus None h =
        let low_ok = rw minus at passed.2 in
        let high_ok = rw minus at passed.3 in
        let numeral = rw minus at passed.0 in
        absurd (only t (Err h.0) (rw minus at h.1) (numeral, omega (arith, ints)))

-- the number is what the words write, or else 60
pub record IsPeriodOf (rows : List Row) (n : ℕ) : Type 0 where
  pub least : least_period ≤ n
  pub greatest : n ≤ greatest_period
  pub written : option_map (signed_digits_value 10) (first_of (codes "period") rows) ≡ Some (pos n)
  pub default : is_given (codes "period") rows ≡ false → n ≡ 60

module _ (E : Type 0) (G : List ℕ → Result ℕ E → Type 0) (m : ArgMatches) (rows : List Row) (are : rows_of (found_of m) ≡ rows) (has : HasPeriod rows) (r : Option ℕ)
    (reads : (t : Text) → one_text (found_of m) (codes "period") ≡ Some t → ReadsOne G t r) (only : (u : Text) (x : Result ℕ E) → G u x → ParsesUnsigned 16 10 u x) where
  number : (n : ℕ) × (r ≡ Some n) × (least_period ≤ n) × (n ≤ greatest_period) × (signed_digits_value 10 has.text ≡ pos n)
  number =
      let text : one_text (found_of m) (codes "period") ≡ Some (without_minus has.text) = one_text-rows (found_of m) (codes "period") ∙ ap (one_of (codes "period")) are ∙ has.read in
      limited_reads E G has.text r (reads (without_minus has.text) text) only has.accepted

  period_is_read : IsSome r
  period_is_read = ap is_some number.1

  period_read : (n : ℕ) → r ≡ Some n → IsPeriodOf rows n
  period_read n is =
      let got = number in
      let same : got.0 ≡ n = same_Some got.0 n (sym got.1 ∙ is) in
      record {
        least = subst (λ (k : ℕ). least_period ≤ k) same got.2;
        greatest = subst (λ (k : ℕ). k ≤ greatest_period) same got.3;
        written = ap (option_map (signed_digits_value 10)) has.first ∙ ap Some (got.4 ∙ ap pos same);
        default = λ none. pos_is n 60 (ap pos (sym same) ∙ sym got.4 ∙ ap (signed_digits_value 10) (has.default none));
      }

-- the flag is whether the words give it
pub flag_read : (m : ArgMatches) (rows : List Row) (b : Bool) → rows_of (found_of m) ≡ rows → ReadsFlag rows
    → (one_text (found_of m) (codes "check") ≡ Some (codes "true") → b ≡ true) → (one_text (found_of m) (codes "check") ≡ Some (codes "false") → b ≡ false)
    → b ≡ is_given (codes "check") rows
flag_read m rows b are (inl given) on off = on (one_text-rows (found_of m) (codes "check") ∙ ap (one_of (codes "check")) are ∙ given.1) ∙ sym given.0
flag_read m rows b are (inr none) on off = off (one_text-rows (found_of m) (codes "check") ∙ ap (one_of (codes "check")) are ∙ none.1) ∙ sym none.0

-- ---- a line that the command took

module _ (a : App) (words : List Text) (m : ArgMatches) (is : a ≡ pespbench) (kinds : is_simple_and_free a ≡ true → fault_of a words ≡ [])
    (matches : HasMatchesOf a words m) (r : Option ℕ)
    (reads : (t : Text) → one_text (found_of m) (codes "period") ≡ Some t
    → ReadsOne (λ bs x. ParsesUnsigned 16 10 bs x × ExplainsUnsignedError 10 bs x × HasUnsignedDigitsIfOk bs x) t r) where
  -- the parser of `--period` accepted a number, given or not
  pub number_is_read : IsSome r
  number_is_read =
      period_is_read _ (λ bs x. ParsesUnsigned 16 10 bs x × ExplainsUnsignedError 10 bs x × HasUnsignedDigitsIfOk bs x) m (matches_of pespbench words)
      (taken_rows a words m is matches) (line_has_period words (taken_has_no_fault a words is kinds)) r reads (λ u x g. g.0)

  pub number_is_period : (n : ℕ) → r ≡ Some n → IsPeriodOf (matches_of pespbench words) n
  number_is_period =
      period_read _ (λ bs x. ParsesUnsigned 16 10 bs x × ExplainsUnsignedError 10 bs x × HasUnsignedDigitsIfOk bs x) m (matches_of pespbench words)
      (taken_rows a words m is matches) (line_has_period words (taken_has_no_fault a words is kinds)) r reads (λ u x g. g.0)

-- ---- a value where a fact holds

pub some_where : {T : Type 0} (o : Option T) (P : Type 0) (v : T) → SomeIff o P v → P → IsSome o
some_where None P v h p = absurd (h p)
some_where (Some x) P v h p = refl

pub some_value : {T : Type 0} (o : Option T) (P : Type 0) (v x : T) → SomeIff o P v → o ≡ Some x → x ≡ v
some_value None P v x h is = cc
some_value (Some y) P v x h is = same_Some x y (sym is) ∙ h.1
