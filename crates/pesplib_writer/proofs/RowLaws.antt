-- The rows of a text of rows are those that it was written for.
use Rattle.std.proofs.Common.{◌≡◌, ℕ, suc, ◌+◌, ◌==◌, true, false, nat_le, List, [], ◌∷◌, ◌++◌, map, filter, reverse, length, refl, sym, ap, subst, ◌∙◌, arith}
use Rattle.std.proofs.lemmas.Bool.{ne_eqb, lt-leb}
use Rattle.std.proofs.lemmas.List.{reverse-append, reverse-reverse}
use Rattle.std.specs.List.{enumerate_from}
use Rattle.pesp_base.proofs.Decimals.{AreBetween}
use Rattle.pesplib_reader.specs.Records.{Row, are_named, are_spoken, fields_in, row_at, rows_of, spoken_from, trim, trim_end, trim_start, without_empty_end, without_header}
use Rattle.pesplib_writer.proofs.RecordLaws.{AreFields, AreRows, IsField, IsRow, raw, records_stand, rows_text, spaced}

-- ---- blanks around a field

AreBetween-append : (low high : ℕ) (xs ys : List ℕ) → AreBetween low high xs → AreBetween low high ys → AreBetween low high (xs ++ ys)
AreBetween-append low high [] ys here there = there
AreBetween-append low high (b ∷ xs) ys here there = (here.0, here.1, AreBetween-append low high xs ys here.2 there)

AreBetween-reverse : (low high : ℕ) (xs : List ℕ) → AreBetween low high xs → AreBetween low high (reverse xs)
AreBetween-reverse low high [] here = tt
AreBetween-reverse low high (b ∷ xs) here =
    subst (AreBetween low high) (sym (reverse-append (b ∷ []) xs)) (AreBetween-append low high (reverse xs) (b ∷ []) (AreBetween-reverse low high xs here.2) (here.0, here.1, tt))

-- a field neither begins nor ends with a blank
start_kept : (f : List ℕ) → AreBetween 45 57 f → trim_start f ≡ f
start_kept [] between = refl
start_kept (b ∷ f) between =
    let space : (b == 32) ≡ false = ne_eqb b 32 (λ same. absurd (omega (arith, between.0))) in
    let tab : (b == 9) ≡ false = ne_eqb b 9 (λ same. absurd (omega (arith, between.0))) in
    rw (space, tab) refl

end_kept : (f : List ℕ) → AreBetween 45 57 f → trim_end f ≡ f
end_kept f between = ap reverse (start_kept (reverse f) (AreBetween-reverse 45 57 f between)) ∙ reverse-reverse f

trim_kept : (f : List ℕ) → AreBetween 45 57 f → trim f ≡ f
trim_kept f between = ap trim_end (start_kept f between) ∙ end_kept f between

trim_spaced : (fs : List (List ℕ)) → AreFields fs → map trim (spaced fs) ≡ fs
trim_spaced [] all = refl
trim_spaced (f ∷ fs) all = rw (trim_kept f all.0.1, trim_spaced fs all.1) refl

-- ---- the fields of a row

not_empty : (f : List ℕ) → IsField f → (length f == 0) ≡ false
not_empty f is = ne_eqb (length f) 0 (λ same. absurd (omega (arith, is.0)))

-- no field of a row is empty, the last one neither
end_stays : (fs : List (List ℕ)) → AreFields fs → without_empty_end fs ≡ fs
end_stays [] all = refl
end_stays (f ∷ []) all = rw (not_empty f all.0) refl
end_stays (f ∷ g ∷ fs) all = ap (λ gs. f ∷ gs) (end_stays (g ∷ fs) all.1)

fields_of_row : (f : List ℕ) (fs : List (List ℕ)) → AreFields (f ∷ fs) → fields_in (raw (f ∷ fs)) ≡ f ∷ fs
fields_of_row f fs all =
    let trimmed : map trim (raw (f ∷ fs)) ≡ f ∷ fs = rw (trim_kept f all.0.1, trim_spaced fs all.1) refl in
    ap without_empty_end trimmed ∙ end_stays (f ∷ fs) all

-- a row keeps its fields, and is neither blank nor a comment nor a header
record Stands (r : List (List ℕ)) : Type 0 where
  fields : fields_in (raw r) ≡ r
  spoken : are_spoken r ≡ true
  unnamed : are_named r ≡ false

starts : (f : List ℕ) (fs : List (List ℕ)) → AreFields (f ∷ fs) → Stands (f ∷ fs)
starts [] fs all = absurd (omega (arith, all.0.0))
starts (b ∷ f) fs all =
    let between = all.0.1 in
    let some : (suc (length fs) == 0) ≡ false = ne_eqb (suc (length fs)) 0 (λ same. absurd (omega arith)) in
    let mark : (b == 35) ≡ false = ne_eqb b 35 (λ same. absurd (omega (arith, between.0))) in
    let upper : nat_le 65 b ≡ false = lt-leb 65 b (omega (arith, between.1)) in
    let lower : nat_le 97 b ≡ false = lt-leb 97 b (omega (arith, between.1)) in
    record { fields = fields_of_row (b ∷ f) fs all; spoken = rw (some, mark) refl; unnamed = rw (upper, lower) refl }

stands : (r : List (List ℕ)) → IsRow r → Stands r
stands [] is = absurd is
stands (f ∷ []) is = absurd is
stands (f ∷ g ∷ fs) is = starts f (g ∷ fs) is

-- ---- the rows of a text

-- rows by their numbers from a number on
abbrev pub numbered : ℕ → List (List (List ℕ)) → List Row
numbered place [] = []
numbered place (r ∷ rows) = record { place = place; fields = r } ∷ numbered (place + 1) rows

one_spoken : (r : Row) (rows : List Row) → are_spoken r.fields ≡ true → filter (λ (q : Row). are_spoken q.fields) (r ∷ rows) ≡ r ∷ filter (λ (q : Row). are_spoken q.fields) rows
one_spoken r rows spoken = rw spoken refl

all_spoken : (place : ℕ) (rows : List (List (List ℕ))) → AreRows rows → spoken_from place (map raw rows) ≡ numbered place rows
all_spoken place [] all = refl
all_spoken place (r ∷ rows) all =
    let is = stands r all.0 in
    ap (λ fs. filter (λ (q : Row). are_spoken q.fields) (record { place = place; fields = fs } ∷ map row_at (enumerate_from (place + 1) (map raw rows)))) is.fields
    ∙ one_spoken (record { place = place; fields = r }) (map row_at (enumerate_from (place + 1) (map raw rows))) is.spoken
    ∙ ap (λ qs. record { place = place; fields = r } ∷ qs) (all_spoken (place + 1) rows all.1)

no_header : (place : ℕ) (rows : List (List (List ℕ))) → AreRows rows → without_header (numbered place rows) ≡ numbered place rows
no_header place [] all = refl
no_header place (r ∷ rows) all = rw (stands r all.0).unnamed refl

-- the rows of the text of rows are these rows, numbered from 1
pub rows_stand : (rows : List (List (List ℕ))) → AreRows rows → rows_of (rows_text rows) ≡ numbered 1 rows
rows_stand rows all =
    ap (λ rs. without_header (spoken_from 1 rs)) (records_stand rows all) ∙ ap without_header (all_spoken 1 rows all) ∙ no_header 1 rows all
