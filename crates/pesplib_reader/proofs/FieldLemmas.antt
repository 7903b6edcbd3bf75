-- The fields of a record, without blanks and without an empty one at the end.
use Rattle.std.proofs.Common.{◌≡◌, ◌≢◌, ℕ, zero, suc, ◌+◌, ◌==◌, ◌&&◌, not, true, false, List, [], ◌∷◌, length, map, take, get_or, Some, None, refl, sym, ap, ◌∙◌, arith}
use Rattle.std.proofs.lemmas.List.{length-map, take-map}
use Rattle.std.proofs.lemmas.Bool.{eq-eqb, ne_eqb}
use Rattle.csv.specs.Records as csv
use Rattle.pesplib_reader.specs.Left.{trimmed_fields}
use Rattle.pesplib_reader.specs.Records.{are_spoken, fields_in, first_byte, trim, without_empty_end}

pub trimmed_is : (r : csv.Row) → trimmed_fields r ≡ map trim (csv.fields_of r)
unfolding trimmed_fields
trimmed_is r = refl

pub length-trimmed : (r : csv.Row) → length (trimmed_fields r) ≡ length (csv.fields_of r)
length-trimmed r = ap length (trimmed_is r) ∙ length-map (csv.fields_of r) trim

-- the field that a look-up finds, trimmed
field_is : (fields : List (List ℕ)) (i : ℕ) (text : List ℕ) → Some text ≡ csv.field_at fields i → trim text ≡ get_or (map trim fields) i []
unfolding csv.field_at
field_is [] i text e = absurd (cc)
field_is (f ∷ fields) zero text e = let same : text ≡ f = cc in ap trim same
field_is (f ∷ fields) (suc i) text e = field_is fields i text e

no_field_is : (fields : List (List ℕ)) (i : ℕ) → None ≡ csv.field_at fields i → ◌≡◌ {A = List ℕ} [] (get_or (map trim fields) i [])
unfolding csv.field_at
no_field_is [] i e = refl
no_field_is (f ∷ fields) zero e = absurd (cc)
no_field_is (f ∷ fields) (suc i) e = no_field_is fields i e

pub field_found : (r : csv.Row) (i : ℕ) (text : List ℕ) → Some text ≡ csv.field_at (csv.fields_of r) i → trim text ≡ get_or (trimmed_fields r) i []
field_found r i text e = field_is (csv.fields_of r) i text e ∙ ap (λ fs. get_or fs i []) (sym (trimmed_is r))

pub no_field_found : (r : csv.Row) (i : ℕ) → None ≡ csv.field_at (csv.fields_of r) i → ◌≡◌ {A = List ℕ} [] (get_or (trimmed_fields r) i [])
no_field_found r i e = no_field_is (csv.fields_of r) i e ∙ ap (λ fs. get_or fs i []) (sym (trimmed_is r))

-- ---- the last field

dropped_end : (fs : List (List ℕ)) (n : ℕ) → length fs ≡ suc n → length (get_or fs n []) ≡ 0 → take n fs ≡ without_empty_end fs
dropped_end [] n e h = absurd (omega (arith, e))
dropped_end (f ∷ []) zero e h = rw (eq-eqb (length f) 0 h) refl
dropped_end (f ∷ []) (suc n) e h = absurd (omega (arith, e))
dropped_end (f ∷ g ∷ fs) zero e h = absurd (omega (arith, e))
dropped_end (f ∷ g ∷ fs) (suc n) e h = ap (λ gs. f ∷ gs) (dropped_end (g ∷ fs) n (omega (arith, e)) h)

kept_end : (fs : List (List ℕ)) (n : ℕ) → length fs ≡ suc n → length (get_or fs n []) ≢ 0 → fs ≡ without_empty_end fs
kept_end [] n e h = refl
kept_end (f ∷ []) zero e h = rw (ne_eqb (length f) 0 h) refl
kept_end (f ∷ []) (suc n) e h = absurd (omega (arith, e))
kept_end (f ∷ g ∷ fs) zero e h = absurd (omega (arith, e))
kept_end (f ∷ g ∷ fs) (suc n) e h = ap (λ gs. f ∷ gs) (kept_end (g ∷ fs) n (omega (arith, e)) h)

no_end : (fs : List (List ℕ)) → length fs ≡ 0 → fs ≡ without_empty_end fs
no_end [] e = refl
no_end (f ∷ fs) e = absurd (omega (arith, e))

module _ (r : csv.Row) where
  trimmed_count : (n : ℕ) → length (csv.fields_of r) ≡ n → length (map trim (csv.fields_of r)) ≡ n
  trimmed_count n e = length-map (csv.fields_of r) trim ∙ e

  -- a record without its last field, which is empty
  pub cut_end : (new : csv.Row) (n : ℕ) → length (csv.fields_of r) ≡ n + 1 → csv.fields_of new ≡ take n (csv.fields_of r) → length (get_or (trimmed_fields r) n []) ≡ 0 → trimmed_fields new ≡ fields_in (csv.fields_of r)
  cut_end new n e t h =
      trimmed_is new ∙ ap (map trim) t ∙ sym (take-map trim n (csv.fields_of r))
      ∙ dropped_end (map trim (csv.fields_of r)) n (omega (arith, trimmed_count (n + 1) e)) (rw trimmed_is at h)

  -- a record whose last field is not empty
  pub same_end : (n : ℕ) → length (csv.fields_of r) ≡ n + 1 → length (get_or (trimmed_fields r) n []) ≢ 0 → trimmed_fields r ≡ fields_in (csv.fields_of r)
  same_end n e h = trimmed_is r ∙ kept_end (map trim (csv.fields_of r)) n (omega (arith, trimmed_count (n + 1) e)) (rw trimmed_is at h)

  -- a record without a field
  pub empty_end : length (csv.fields_of r) ≡ 0 → trimmed_fields r ≡ fields_in (csv.fields_of r)
  empty_end e = trimmed_is r ∙ no_end (map trim (csv.fields_of r)) (trimmed_count 0 e)

-- ---- as many fields as a row has

pub two_fields : (fs : List (List ℕ)) → length fs ≡ 2 → fs ≡ get_or fs 0 [] ∷ get_or fs 1 [] ∷ []
two_fields (a ∷ b ∷ []) e = refl
two_fields [] e = absurd (omega (arith, e))
two_fields (a ∷ []) e = absurd (omega (arith, e))
two_fields (a ∷ b ∷ c ∷ fs) e = absurd (omega (arith, e))

pub six_fields : (fs : List (List ℕ)) → length fs ≡ 6 → fs ≡ get_or fs 0 [] ∷ get_or fs 1 [] ∷ get_or fs 2 [] ∷ get_or fs 3 [] ∷ get_or fs 4 [] ∷ get_or fs 5 [] ∷ []
six_fields (a ∷ b ∷ c ∷ d ∷ e ∷ f ∷ []) h = refl
six_fields [] h = absurd (omega (arith, h))
six_fields (a ∷ []) h = absurd (omega (arith, h))
six_fields (a ∷ b ∷ []) h = absurd (omega (arith, h))
six_fields (a ∷ b ∷ c ∷ []) h = absurd (omega (arith, h))
six_fields (a ∷ b ∷ c ∷ d ∷ []) h = absurd (omega (arith, h))
six_fields (a ∷ b ∷ c ∷ d ∷ e ∷ []) h = absurd (omega (arith, h))
six_fields (a ∷ b ∷ c ∷ d ∷ e ∷ f ∷ g ∷ fs) h = absurd (omega (arith, h))

-- ---- what a record begins with

module _ (r : csv.Row) where
  pub spoken_if : (byte : ℕ) → (length (csv.fields_of r) == 0) ≡ false → byte ≡ first_byte (trimmed_fields r) → not (byte == 35) ≡ are_spoken (trimmed_fields r)
  spoken_if byte some is =
      let e : (length (trimmed_fields r) == 0) ≡ false = ap (λ n. n == 0) (length-trimmed r) ∙ some in
      ap (λ b. not (b == 35)) is ∙ ap (λ t. not t && not (first_byte (trimmed_fields r) == 35)) (sym e)

  pub unspoken_if : (length (csv.fields_of r) == 0) ≡ true → false ≡ are_spoken (trimmed_fields r)
  unspoken_if no_field =
      let e : (length (trimmed_fields r) == 0) ≡ true = ap (λ n. n == 0) (length-trimmed r) ∙ no_field in
      ap (λ t. not t && not (first_byte (trimmed_fields r) == 35)) (sym e)
