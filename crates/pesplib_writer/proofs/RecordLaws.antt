-- The records of a text of rows, each written with a semicolon and a space between its fields.
use Rattle.std.proofs.Common.{◌≡◌, ℕ, zero, suc, ◌+◌, ◌<◌, ◌≤◌, ◌==◌, true, false, if◌then◌else◌, List, [], ◌∷◌, ◌++◌, map, length, codes, Some, refl, sym, ap, ◌∙◌, arith, append_assoc, length-append}
use Rattle.std.proofs.lemmas.Bool.{ne_eqb, or_right}
use Rattle.std.proofs.lemmas.List.{append-nil}
use Rattle.std.specs.List.{list_any}
use Rattle.csv.specs.Machine.{next_record}
use Rattle.csv.specs.Reading.{records, records_from, strip_bom}
use Rattle.csv.specs.declared.parser.Config.{Config}
use Rattle.csv.specs.declared.parser.State.TheVariants as st
use Rattle.pesp_base.specs.Texts.{as_lines}
use Rattle.pesp_base.proofs.Decimals.{AreBetween}
use Rattle.pesplib_reader.specs.Records.{records_of, separator_of, text_records, with_separator}
use Rattle.pesplib_writer.specs.Texts.{row_line}

-- how `csv` reads with a semicolon between fields
abbrev pub semicolons : Config
semicolons = with_separator 59

-- a field of digits and minus signs, one or more
abbrev pub IsField : List ℕ → Type 0
IsField f = (0 < length f) × AreBetween 45 57 f

-- each of these is such a field
abbrev pub AreFields : List (List ℕ) → Type 0
AreFields [] = Unit {0}
AreFields (f ∷ fs) = IsField f × AreFields fs

-- a row has such fields, two or more
abbrev pub IsRow : List (List ℕ) → Type 0
IsRow [] = ⊥
IsRow (f ∷ []) = ⊥
IsRow (f ∷ g ∷ fs) = AreFields (f ∷ g ∷ fs)

-- each of these is such a row
abbrev pub AreRows : List (List (List ℕ)) → Type 0
AreRows [] = Unit {0}
AreRows (r ∷ rows) = IsRow r × AreRows rows

-- fields with a space in front of each, as they stand after semicolons
abbrev pub spaced : List (List ℕ) → List (List ℕ)
spaced fs = map (λ f. 32 ∷ f) fs

-- the record that the line of a row is
abbrev pub raw : List (List ℕ) → List (List ℕ)
raw [] = []
raw (f ∷ fs) = f ∷ spaced fs

-- a byte of a field is no mark of the format
record IsPlain (b : ℕ) : Type 0 where
  separator : (b == 59) ≡ false
  quote : (b == 34) ≡ false
  return : (b == 13) ≡ false
  feed : (b == 10) ≡ false

plain : (b : ℕ) → 45 ≤ b → b ≤ 57 → IsPlain b
plain b low high = record {
  separator = ne_eqb b 59 (λ same. absurd (omega arith));
  quote = ne_eqb b 34 (λ same. absurd (omega arith));
  return = ne_eqb b 13 (λ same. absurd (omega arith));
  feed = ne_eqb b 10 (λ same. absurd (omega arith));
}

-- the bytes of a field join the field at hand
field_run : (fields : List (List ℕ)) (field f tail : List ℕ) → AreBetween 45 57 f → next_record semicolons st.InField fields field (f ++ tail) ≡ next_record semicolons st.InField fields (field ++ f) tail
unfolding next_record
field_run fields field [] tail between = rw (append-nil field) refl
field_run fields field (b ∷ f) tail between =
    let p = plain b between.0 between.1 in
    rw (p.separator, p.return, p.feed) (field_run fields (field ++ (b ∷ [])) f tail between.2
    ∙ ap (λ (x : List ℕ). next_record semicolons st.InField fields x tail) (append_assoc field (b ∷ []) f))

-- a semicolon and a space end a field, and the space joins the next one
field_end : (fields : List (List ℕ)) (field tail : List ℕ) → next_record semicolons st.InField fields field (59 ∷ 32 ∷ tail) ≡ next_record semicolons st.InField (fields ++ (field ∷ [])) (32 ∷ []) tail
unfolding next_record
field_end fields field tail = refl

-- a line feed ends the last field, and the record
line_end : (fields : List (List ℕ)) (field tail : List ℕ) → next_record semicolons st.InField fields field (10 ∷ tail) ≡ Some (fields ++ (field ∷ []), st.StartRecord, tail)
unfolding next_record
line_end fields field tail = refl

-- a byte of a field starts a record
line_start : (b : ℕ) (tail : List ℕ) → 45 ≤ b → b ≤ 57 → next_record semicolons st.StartRecord [] [] (b ∷ tail) ≡ next_record semicolons st.InField [] (b ∷ []) tail
unfolding next_record
line_start b tail low high =
    let p = plain b low high in
    rw (p.return, p.feed, p.quote, p.separator) refl

-- a line of two fields or more, at its first semicolon
next_field : (f g : List ℕ) (gs : List (List ℕ)) (tail : List ℕ) → row_line (f ∷ g ∷ gs) ++ (10 ∷ tail) ≡ f ++ (59 ∷ 32 ∷ (row_line (g ∷ gs) ++ (10 ∷ tail)))
next_field f g gs tail = append_assoc (f ++ codes "; ") (row_line (g ∷ gs)) (10 ∷ tail) ∙ append_assoc f (codes "; ") (row_line (g ∷ gs) ++ (10 ∷ tail))

-- the rest of a line, where a field is at hand
rest_run : (fields : List (List ℕ)) (field f : List ℕ) (fs : List (List ℕ)) (tail : List ℕ) → AreBetween 45 57 f → AreFields fs
    → next_record semicolons st.InField fields field (row_line (f ∷ fs) ++ (10 ∷ tail)) ≡ Some (fields ++ ((field ++ f) ∷ spaced fs), st.StartRecord, tail)
rest_run fields field f [] tail between all = field_run fields field f (10 ∷ tail) between ∙ line_end fields (field ++ f) tail
rest_run fields field f (g ∷ gs) tail between all =
    let rest : List ℕ = row_line (g ∷ gs) ++ (10 ∷ tail) in
    ap (λ x. next_record semicolons st.InField fields field x) (next_field f g gs tail)
    ∙ field_run fields field f (59 ∷ 32 ∷ rest) between
    ∙ field_end fields (field ++ f) rest
    ∙ rest_run (fields ++ ((field ++ f) ∷ [])) (32 ∷ []) g gs tail all.0.1 all.1
    ∙ ap (λ x. Some (x, st.StartRecord, tail)) (append_assoc fields ((field ++ f) ∷ []) ((32 ∷ g) ∷ spaced gs))

-- a line at its first byte
first_byte_of : (b : ℕ) (f : List ℕ) (fs : List (List ℕ)) (tail : List ℕ) → row_line ((b ∷ f) ∷ fs) ++ tail ≡ b ∷ (row_line (f ∷ fs) ++ tail)
first_byte_of b f [] tail = refl
first_byte_of b f (g ∷ gs) tail = refl

-- a line of fields is a record
fields_run : (f : List ℕ) (fs : List (List ℕ)) (tail : List ℕ) → AreFields (f ∷ fs) → next_record semicolons st.StartRecord [] [] (row_line (f ∷ fs) ++ (10 ∷ tail)) ≡ Some (f ∷ spaced fs, st.StartRecord, tail)
fields_run [] fs tail all = absurd (omega (arith, all.0.0))
fields_run (b ∷ f) fs tail all =
    let between = all.0.1 in
    ap (λ x. next_record semicolons st.StartRecord [] [] x) (first_byte_of b f fs (10 ∷ tail))
    ∙ line_start b (row_line (f ∷ fs) ++ (10 ∷ tail)) between.0 between.1
    ∙ rest_run [] (b ∷ []) f fs tail between.2 all.1

-- the line of a row is a record
line_run : (r : List (List ℕ)) (tail : List ℕ) → IsRow r → next_record semicolons st.StartRecord [] [] (row_line r ++ (10 ∷ tail)) ≡ Some (raw r, st.StartRecord, tail)
line_run [] tail is = absurd is
line_run (f ∷ []) tail is = absurd is
line_run (f ∷ g ∷ fs) tail is = fields_run f (g ∷ fs) tail is

-- the text of rows
abbrev pub rows_text : List (List (List ℕ)) → List ℕ
rows_text rows = as_lines (map row_line rows)

-- a line in front of others
one_line : (l rest : List ℕ) → (l ++ 10 ∷ []) ++ rest ≡ l ++ (10 ∷ rest)
one_line l rest = append_assoc l (10 ∷ []) rest

-- each line of the text is a record
records_run : (rows : List (List (List ℕ))) (n : ℕ) → AreRows rows → length rows ≤ n → records_from semicolons n st.StartRecord (rows_text rows) ≡ map raw rows
unfolding records_from next_record
records_run [] zero all le = refl
records_run [] (suc n) all le = refl
records_run (r ∷ rows) zero all le = absurd (omega arith)
records_run (r ∷ rows) (suc n) all le =
    rw (one_line (row_line r) (rows_text rows), line_run r (rows_text rows) all.0) (ap (λ rs. raw r ∷ rs) (records_run rows n all.1 (omega (arith, le))))

-- there are no more rows than bytes
length-rows_text : (rows : List (List (List ℕ))) → length rows ≤ length (rows_text rows)
length-rows_text [] = omega arith
length-rows_text (r ∷ rows) =
    omega (arith, length-append (row_line r ++ 10 ∷ []) (rows_text rows), length-append (row_line r) (10 ∷ []), length-rows_text rows)

-- ---- the separator of the text, and its start

-- a semicolon is found after any bytes
has_separator : (f x : List ℕ) → list_any (λ b. b == 59) (f ++ (59 ∷ x)) ≡ true
has_separator [] x = refl
has_separator (b ∷ f) x = rw (has_separator f x) (or_right (b == 59) true refl)

-- a text of rows is read with semicolons
separator : (r : List (List ℕ)) (rows : List (List (List ℕ))) → IsRow r → separator_of (rows_text (r ∷ rows)) ≡ 59
separator [] rows is = absurd is
separator (f ∷ []) rows is = absurd is
separator (f ∷ g ∷ fs) rows is =
    ap (λ t. if list_any (λ b. b == 59) t then 59 else 44) (one_line (row_line (f ∷ g ∷ fs)) (rows_text rows) ∙ next_field f g fs (rows_text rows))
    ∙ ap (λ b. if b then 59 else 44) (has_separator f (32 ∷ (row_line (g ∷ fs) ++ (10 ∷ rows_text rows))))

-- a text that begins with a byte of a field has no byte order mark
no_mark : (b : ℕ) (xs : List ℕ) → b ≤ 57 → strip_bom (b ∷ xs) ≡ b ∷ xs
unfolding strip_bom
no_mark b [] high = refl
no_mark b (c ∷ []) high = refl
no_mark b (c ∷ d ∷ xs) high =
    let apart : (b == 0xEF) ≡ false = ne_eqb b 0xEF (λ same. absurd (omega arith)) in
    rw apart refl

fields_start : (f : List ℕ) (fs : List (List ℕ)) (tail : List ℕ) → AreFields (f ∷ fs) → strip_bom (row_line (f ∷ fs) ++ tail) ≡ row_line (f ∷ fs) ++ tail
fields_start [] fs tail all = absurd (omega (arith, all.0.0))
fields_start (b ∷ f) fs tail all =
    let e = first_byte_of b f fs tail in
    ap strip_bom e ∙ no_mark b (row_line (f ∷ fs) ++ tail) all.0.1.1 ∙ sym e

line_start_kept : (r : List (List ℕ)) (tail : List ℕ) → IsRow r → strip_bom (row_line r ++ tail) ≡ row_line r ++ tail
line_start_kept [] tail is = absurd is
line_start_kept (f ∷ []) tail is = absurd is
line_start_kept (f ∷ g ∷ fs) tail is = fields_start f (g ∷ fs) tail is

-- a text of rows has no byte order mark
text_kept : (r : List (List ℕ)) (rows : List (List (List ℕ))) → IsRow r → strip_bom (rows_text (r ∷ rows)) ≡ rows_text (r ∷ rows)
text_kept r rows is =
    let e = one_line (row_line r) (rows_text rows) in
    ap strip_bom e ∙ line_start_kept r (10 ∷ rows_text rows) is ∙ sym e

no_records : records_of [] ≡ []
unfolding records_from strip_bom next_record
no_records = refl

-- each row of a text is one of its records
pub records_stand : (rows : List (List (List ℕ))) → AreRows rows → records_of (rows_text rows) ≡ map raw rows
records_stand [] all = no_records
records_stand (r ∷ rows) all =
    let text = rows_text (r ∷ rows) in
    ap text_records (text_kept r rows all.0)
    ∙ ap (λ s. records (with_separator s) text) (separator r rows all.0)
    ∙ records_run (r ∷ rows) (length text + 1) all (omega (arith, length-rows_text (r ∷ rows)))
