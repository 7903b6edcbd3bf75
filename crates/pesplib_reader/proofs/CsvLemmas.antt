-- The records of a text, read one after another.
use Rattle.std.proofs.Common.{◌≡◌, ℕ, zero, suc, ◌+◌, ◌<◌, ◌≤◌, ◌==◌, ◌&&◌, Bool, true, false, cond, List, [], ◌∷◌, ◌++◌, length, Option, Some, None, unwrap_or, Result, Ok, Err, IfOk, IfErr, OnOk, refl, sym, ap, subst, ◌∙◌, arith, add-one, inl, inr}
use Rattle.std.specs.Borrow.{Bor}
use Rattle.std.proofs.lemmas.Bool.{and_parts, eqb-true}
use Rattle.csv.specs.Machine.{Read, after_end, ends_at_end, ends_with, field_after, fields_after, in_field, is_byte, is_end, line_feed, next_record, start_field, start_record, step}
use Rattle.csv.specs.Reading.{is_bom, strip_bom, ReadRecord, Reached, Ready, error_kind, is_flexible, names_headers, reader_config, reader_headers, reader_state, reader_trim, records_from, records_next, took_first, ExplainsRead}
use Rattle.csv.specs.declared.error.Error.{Error}
use Rattle.csv.specs.declared.error.ErrorKind.{ErrorKind}
use Rattle.csv.specs.declared.error.ErrorKind.TheVariants as error
use Rattle.csv.specs.declared.parser.Action.{Action}
use Rattle.csv.specs.declared.parser.Action.TheVariants as act
use Rattle.csv.specs.declared.parser.Config.{Config}
use Rattle.csv.specs.declared.parser.State.{State}
use Rattle.csv.specs.declared.parser.State.TheVariants as st
use Rattle.csv.specs.declared.parser.Terminator.{Terminator}
use Rattle.csv.specs.declared.parser.Terminator.TheVariants as term
use Rattle.csv.specs.declared.reader.Trim.TheVariants as trim_of
use Rattle.csv.proofs.ReadFacts.{rows-end, rows-more}
use Rattle.pesplib_reader.specs.Records.{records_of, separator_of, with_separator}
use Rattle.pesplib_reader.specs.Left.{BytesReader, IsBetween, IsOfMemory, left_of, source_in, unread}

-- ---- a byte that ends a record leaves the machine between two records

abbrev IsSettled : State × Action → Type 0
IsSettled x = is_end x.1 ≡ true → ends_at_end x.0 ≡ false

either : (b : Bool) (x y : State × Action) → IsSettled x → IsSettled y → IsSettled (cond b x y)
either true x y h g = h
either false x y h g = g

idle : (s : State) (a : Action) → is_end a ≡ false → IsSettled (s, a)
idle s a h e = absurd (cc)

after : (t : Terminator) (c : ℕ) → ends_at_end (after_end t c) ≡ false
after term.CRLF c = elim (c == 13) as (λ b. ends_at_end (cond b st.AfterCr st.StartRecord) ≡ false) [ true ↦ refl | false ↦ refl ]
after (term.Any t) c = refl

in_a_field : (cfg : Config) (c : ℕ) → IsSettled (in_field cfg c)
in_a_field cfg c =
    either (c == cfg.delimiter) (st.StartField, act.EndField) _ (idle st.StartField act.EndField refl)
    (either (ends_with cfg.terminator c) (after_end cfg.terminator c, act.EndRecord) (st.InField, act.Copy) (λ _. after cfg.terminator c) (idle st.InField act.Copy refl))

at_a_field : (cfg : Config) (c : ℕ) → IsSettled (start_field cfg c)
at_a_field cfg c = either (cfg.quoting && (c == cfg.quote)) (st.InQuoted, act.Skip) (in_field cfg c) (idle st.InQuoted act.Skip refl) (in_a_field cfg c)

at_a_record : (cfg : Config) (c : ℕ) → IsSettled (start_record cfg c)
at_a_record cfg c =
    either (ends_with cfg.terminator c) (st.StartRecord, act.Skip) _ (idle st.StartRecord act.Skip refl)
    (either (is_byte cfg.comment c) (st.InComment, act.Skip) (start_field cfg c) (idle st.InComment act.Skip refl) (at_a_field cfg c))

settled : (cfg : Config) (s : State) (c : ℕ) → IsSettled (step cfg s c)
settled cfg st.StartRecord c = at_a_record cfg c
settled cfg st.StartField c = at_a_field cfg c
settled cfg st.InField c = in_a_field cfg c
settled cfg st.InQuoted c =
    either (cfg.quoting && (c == cfg.quote)) (st.AfterQuote, act.Skip) _ (idle st.AfterQuote act.Skip refl)
    (either (cfg.quoting && is_byte cfg.escape c) (st.InEscape, act.Skip) (st.InQuoted, act.Copy) (idle st.InEscape act.Skip refl) (idle st.InQuoted act.Copy refl))
settled cfg st.InEscape c = idle st.InQuoted act.Copy refl
settled cfg st.AfterQuote c =
    either (cfg.quoting && cfg.double_quote && (c == cfg.quote)) (st.InQuoted, act.Copy) (in_field cfg c) (idle st.InQuoted act.Copy refl) (in_a_field cfg c)
settled cfg st.InComment c =
    either (c == line_feed) (st.StartRecord, act.Skip) (st.InComment, act.Skip) (idle st.StartRecord act.Skip refl) (idle st.InComment act.Skip refl)
settled cfg st.AfterCr c =
    either (c == line_feed) (st.StartRecord, act.Skip) (start_record cfg c) (idle st.StartRecord act.Skip refl) (at_a_record cfg c)

-- ---- a record takes bytes away, and leaves the machine between two records

abbrev Leaves : ℕ → Option Read → Type 0
Leaves n o = (p : Read) → o ≡ Some p → (ends_at_end p.1 ≡ false) × (length p.2 ≤ n)

none_left : (n : ℕ) → Leaves n None
none_left n p e = absurd (cc)

some_left : (n : ℕ) (fields : List (List ℕ)) (s : State) (rest : List ℕ) → ends_at_end s ≡ false → length rest ≤ n → Leaves n (Some (fields, s, rest))
some_left n fields s rest h le p e =
    let same : p ≡ (fields, s, rest) = cc in
    rw same (h, le)

leaves : (cfg : Config) (s : State) (fields : List (List ℕ)) (field xs : List ℕ) → Leaves (length xs) (next_record cfg s fields field xs)
unfolding next_record
leaves cfg s fields field [] =
    elim (ends_at_end s) as (λ b. Leaves 0 (cond b (Some (fields ++ (field ∷ []), st.StartRecord, [])) None)) [
      | true ↦ some_left 0 _ st.StartRecord [] refl (omega arith)
      | false ↦ none_left 0
    ]
leaves cfg s fields field (c ∷ rest) =
    elim (is_end (step cfg s c).1) as (λ b. is_end (step cfg s c).1 ≡ b → Leaves (length (c ∷ rest)) (cond b (Some (fields_after (step cfg s c).1 fields field, (step cfg s c).0, rest)) (next_record cfg (step cfg s c).0 (fields_after (step cfg s c).1 fields field) (field_after (step cfg s c).1 c field) rest))) [
      | true ↦ λ e. some_left (length (c ∷ rest)) _ (step cfg s c).0 rest (settled cfg s c e) (omega arith)
      | false ↦ λ e p h.
          let l = leaves cfg (step cfg s c).0 (fields_after (step cfg s c).1 fields field) (field_after (step cfg s c).1 c field) rest p h in
          (l.0, omega (arith, l.1))
    ] refl

-- between two records, some byte is taken
leaves_less : (cfg : Config) (s : State) (xs : List ℕ) (p : Read) → ends_at_end s ≡ false → next_record cfg s [] [] xs ≡ Some p → length p.2 < length xs
unfolding next_record
leaves_less cfg s [] p h e = absurd (none_there (rw h at e))
  where
    none_there : {p : Read} → None ≡ Some p → ⊥
    none_there e = cc
leaves_less cfg s (c ∷ rest) p h e =
    elim (is_end (step cfg s c).1) as (λ b. cond b (Some (fields_after (step cfg s c).1 [] [], (step cfg s c).0, rest)) (next_record cfg (step cfg s c).0 (fields_after (step cfg s c).1 [] []) (field_after (step cfg s c).1 c []) rest) ≡ Some p → length p.2 < length (c ∷ rest)) [
      | true ↦ λ at. let same : p ≡ (fields_after (step cfg s c).1 [] [], (step cfg s c).0, rest) = cc in rw same (omega arith)
      | false ↦ λ at. omega (arith, (leaves cfg (step cfg s c).0 (fields_after (step cfg s c).1 [] []) (field_after (step cfg s c).1 c []) rest p at).1)
    ] e

-- ---- a count of records that is above that of the bytes is as good as any other

same_next : (cfg : Config) (n m k : ℕ) (o : Option Read) → ((p : Read) → o ≡ Some p → records_from cfg n p.1 p.2 ≡ records_from cfg m p.1 p.2) → records_next (records_from cfg n) o ≡ records_next (records_from cfg m) o
same_next cfg n m k None h = refl
same_next cfg n m k (Some p) h = ap (λ rs. p.0 ∷ rs) (h p refl)

enough : (cfg : Config) (n m : ℕ) (s : State) (xs : List ℕ) → ends_at_end s ≡ false → length xs < n → length xs < m → records_from cfg n s xs ≡ records_from cfg m s xs
unfolding records_from
enough cfg zero m s xs h g l = absurd (omega arith)
enough cfg (suc n) zero s xs h g l = absurd (omega arith)
enough cfg (suc n) (suc m) s xs h g l =
    same_next cfg n m 0 (next_record cfg s [] [] xs) (λ p e.
    let less = leaves_less cfg s xs p h e in
    enough cfg n m p.1 p.2 (leaves cfg s [] [] xs p e).0 (omega (arith, less)) (omega (arith, less)))

records_step : (cfg : Config) (n : ℕ) (s : State) (xs : List ℕ) → records_from cfg (n + 1) s xs ≡ records_next (records_from cfg n) (next_record cfg s [] [] xs)
unfolding records_from
records_step cfg n s xs = rw add-one refl

-- ---- a read of a reader

abbrev told : Bor (List ℕ) → Option (List ℕ)
told s = Some s.now

is_unread : (r : BytesReader) (xs : List ℕ) → source_in r ≡ Some xs → unread r ≡ xs
unfolding unread
is_unread r xs e = ap (λ o. unwrap_or o []) e

abbrev read_of : List (List ℕ) → State → List ℕ → Option Read
read_of fields s rest = Some (fields, s, rest)

left_is : (r : BytesReader) → left_of r ≡ records_from (reader_config r) (length (unread r) + 1) (reader_state r) (unread r)
unfolding left_of
left_is r = refl

module _ (a b : BytesReader) (fields : List (List ℕ)) (h : IsBetween a) where
  none : ReadRecord told a b false fields → left_of a ≡ []
  none r =
      left_is a ∙ records_step (reader_config a) (length (unread a)) (reader_state a) (unread a)
      ∙ ap (records_next (records_from (reader_config a) (length (unread a)))) (rows-end told a b fields (reader_config a) (unread a) refl h.known r)

  module _ (r : ReadRecord told a b true fields) where
    found : (next_record (reader_config a) (reader_state a) [] [] (unread a) ≡ read_of fields (reader_state b) (unread b)) × (source_in b ≡ Some (unread b))
    unfolding Reached
    found =
        let m = rows-more told a b fields (reader_config a) (reader_state a) (unread a) (unread a) [] refl h.known (refl, refl) r in
        let rest : unread b ≡ m.0 = is_unread b m.0 m.1 in (
          m.2.1 ∙ ap (λ (f : List (List ℕ)). read_of f m.2.0.1 m.2.0.2) (sym m.2.2) ∙ ap (λ (s : State). read_of fields s m.2.0.2) m.2.3.0 ∙ ap (λ (xs : List ℕ). read_of fields (reader_state b) xs) (m.2.3.1 ∙ sym rest),
          m.1 ∙ ap (λ xs. Some xs) (sym rest),
        )

    shorter : length (unread b) < length (unread a)
    shorter = leaves_less (reader_config a) (reader_state a) (unread a) (fields, reader_state b, unread b) h.between found.0

    between : ends_at_end (reader_state b) ≡ false
    between = (leaves (reader_config a) (reader_state a) [] [] (unread a) (fields, reader_state b, unread b) found.0).0

    next : left_of a ≡ fields ∷ left_of b
    next =
        left_is a ∙ records_step (reader_config a) (length (unread a)) (reader_state a) (unread a)
        ∙ ap (records_next (records_from (reader_config a) (length (unread a)))) found.0
        ∙ ap (λ rs. fields ∷ rs)
        (enough (reader_config a) (length (unread a)) (length (unread b) + 1) (reader_state b) (unread b) between shorter (omega arith)
        ∙ ap (λ cfg. records_from cfg (length (unread b) + 1) (reader_state b) (unread b)) (sym r.2)
        ∙ sym (left_is b))

    stays : took_first b ≡ true → is_flexible b ≡ is_flexible a → IsBetween b
    stays taken same = record { plain = r.3 ∙ h.plain; flexible = same ∙ h.flexible; ready = inl taken; known = found.1; between = between }

-- the same of what a read answered
module _ (a b : BytesReader) (fields : List (List ℕ)) (h : IsBetween a) where
  read_as : (s t : Bool) → s ≡ t → ReadRecord told a b s fields → ReadRecord told a b t fields
  read_as s t e r = subst (λ d. ReadRecord told a b d fields) e r

  module _ {E : Type 0} where
    abbrev Reads : Result Bool E → Type 0
    Reads r = IfOk r (λ found. (reader_trim a ≡ trim_of.None) → Ready a → ReadRecord told a b found fields)

    abbrev Begins : Result Bool E → Type 0
    Begins r = (reader_trim a ≡ trim_of.None) → OnOk r (took_first b ≡ true)

    pub answered_none : (r : Result Bool E) → Reads r → IfOk r (λ found. found ≡ false → left_of a ≡ [])
    answered_none (Ok found) reads = λ e. none a b fields h (read_as found false e (reads h.plain h.ready))
    answered_none (Err e) reads = tt

    pub answered_next : (r : Result Bool E) → Reads r → IfOk r (λ found. found ≡ true → left_of a ≡ fields ∷ left_of b)
    answered_next (Ok found) reads = λ e. next a b fields h (read_as found true e (reads h.plain h.ready))
    answered_next (Err e) reads = tt

    abbrev Keeps : Result Bool E → Type 0
    Keeps r = OnOk r (is_flexible b ≡ is_flexible a)

    pub answered_between : (r : Result Bool E) → Reads r → Begins r → Keeps r → IfOk r (λ found. found ≡ true → IsBetween b)
    answered_between (Ok found) reads begins keeps = λ e. stays a b fields h (read_as found true e (reads h.plain h.ready)) (begins h.plain) keeps
    answered_between (Err e) reads begins keeps = tt

    pub answered_shorter : (r : Result Bool E) → Reads r → IfOk r (λ found. found ≡ true → length (unread b) < length (unread a))
    answered_shorter (Ok found) reads = λ e. shorter a b fields h (read_as found true e (reads h.plain h.ready))
    answered_shorter (Err e) reads = tt

-- ---- why a read failed: records of any lengths are taken, and as bytes

module _ (a b : BytesReader) (h : IsBetween a) where
  of_memory : (k : ErrorKind) → ExplainsRead told a b false k → IsOfMemory k
  of_memory error.OutOfMemory why = tt
  of_memory (error.Io e) why = tt
  of_memory (error.UnequalLengths pos expected len) why = absurd (differ (sym h.flexible ∙ why.0))
    where
      differ : true ≡ false → ⊥
      differ e = cc
  of_memory (error.Utf8 pos e) why = absurd (differ why.0)
    where
      differ : false ≡ true → ⊥
      differ e = cc
  of_memory (error.Serialize text) why = why
  of_memory (error.Deserialize pos e) why = why

  pub failed_of_memory : (r : Result Bool Error) → IfErr r (λ e. Ready a → ExplainsRead told a b false (error_kind e)) → IfErr r (λ e. IsOfMemory (error_kind e))
  failed_of_memory (Ok _) why = tt
  failed_of_memory (Err e) why = of_memory (error_kind e) (why h.ready)

-- ---- a reader at the start of a text

-- the bytes of a byte order mark are no separators
marked : (a b c : ℕ) (rest : List ℕ) (t : Bool) → is_bom a b c ≡ t → separator_of (cond t rest (a ∷ b ∷ c ∷ rest)) ≡ separator_of (a ∷ b ∷ c ∷ rest)
marked a b c rest false e = refl
marked a b c rest true e =
    let parts = and_parts ((a == 0xEF) && (b == 0xBB)) (c == 0xBF) e in
    let others = and_parts (a == 0xEF) (b == 0xBB) parts.0 in
    rw (eqb-true a 0xEF others.0, eqb-true b 0xBB others.1, eqb-true c 0xBF parts.1) refl

same_separator : (bytes : List ℕ) → separator_of (strip_bom bytes) ≡ separator_of bytes
unfolding strip_bom
same_separator [] = refl
same_separator (a ∷ []) = refl
same_separator (a ∷ b ∷ []) = refl
same_separator (a ∷ b ∷ c ∷ rest) = marked a b c rest (is_bom a b c) refl

length-strip_bom : (bytes : List ℕ) → length (strip_bom bytes) ≤ length bytes
unfolding strip_bom
length-strip_bom [] = omega arith
length-strip_bom (a ∷ []) = omega arith
length-strip_bom (a ∷ b ∷ []) = omega arith
length-strip_bom (a ∷ b ∷ c ∷ rest) = elim (is_bom a b c) as (λ t. length (cond t rest (a ∷ b ∷ c ∷ rest)) ≤ length (a ∷ b ∷ c ∷ rest)) [ true ↦ omega arith | false ↦ omega arith ]

module _ (r : BytesReader) (bytes : List ℕ) (source : source_in r ≡ Some (strip_bom bytes)) (state : reader_state r ≡ st.StartRecord) where
  opened_unread : unread r ≡ strip_bom bytes
  opened_unread = is_unread r (strip_bom bytes) source

  pub opened_between : reader_trim r ≡ trim_of.None → is_flexible r ≡ true → names_headers r ≡ false → reader_headers r ≡ None → IsBetween r
  opened_between plain flexible headers none =
      record {
        plain = plain;
        flexible = flexible;
        ready = inr (inr (headers, none));
        known = source ∙ ap (λ xs. Some xs) (sym opened_unread);
        between = rw state refl;
      }

  pub opened_left : reader_config r ≡ with_separator (separator_of bytes) → left_of r ≡ records_of bytes
  opened_left e =
      left_is r ∙ ap (λ d. records_from d (length (unread r) + 1) (reader_state r) (unread r)) (e ∙ ap with_separator (sym (same_separator bytes)))
      ∙ ap (λ s. records_from (with_separator (separator_of (strip_bom bytes))) (length (unread r) + 1) s (unread r)) state
      ∙ ap (λ xs. records_from (with_separator (separator_of (strip_bom bytes))) (length xs + 1) st.StartRecord xs) opened_unread

  pub opened_short : length (unread r) ≤ length bytes
  opened_short = rw opened_unread (length-strip_bom bytes)
