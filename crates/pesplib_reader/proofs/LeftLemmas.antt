-- What one record more does to the rows that are left.
use Rattle.std.proofs.Common.{◌≡◌, ℕ, ◌+◌, ◌≤◌, Bool, true, false, cond, ◌||◌, ◌&&◌, not, List, [], ◌∷◌, length, map, filter, refl, sym, ap, ◌∙◌, arith}
use Rattle.std.specs.List.{enumerate_from}
use Rattle.pesplib_reader.specs.declared.fault.ReadFault.{ReadFault}
use Rattle.pesplib_reader.specs.declared.fault.FaultKind.TheVariants as fault
use Rattle.pesplib_reader.specs.declared.records.Records.{Records}
use Rattle.pesplib_reader.specs.Records.{Row, are_named, are_spoken, fields_in, row_at, spoken_from, without_header}
use Rattle.pesplib_reader.specs.Left.{AreFrom, IsNextRow, IsReading, IsWant, count_of, is_row, left_of, row_of, rows_after, rows_left, trimmed_fields}

-- ---- the rows from one record on

step : (spoken named begun : Bool) (r : Row) (rows : List Row) → are_named r.fields ≡ named
    → cond begun (cond spoken (r ∷ rows) rows) (without_header (cond spoken (r ∷ rows) rows))
    ≡ cond (spoken && (begun || not named)) (r ∷ cond (begun || spoken) rows (without_header rows)) (cond (begun || spoken) rows (without_header rows))
step true named true r rows e = refl
step true true false r rows e = ap (λ t. cond t rows (r ∷ rows)) e
step true false false r rows e = ap (λ t. cond t rows (r ∷ rows)) e
step false named true r rows e = refl
step false named false r rows e = refl

pub rows_step : (begun : Bool) (place : ℕ) (fields : List (List ℕ)) (rs : List (List (List ℕ)))
    → rows_after begun place (fields ∷ rs)
    ≡ cond (is_row begun (fields_in fields)) (record { place = place; fields = fields_in fields } ∷ rows_after (begun || are_spoken (fields_in fields)) (place + 1) rs) (rows_after (begun || are_spoken (fields_in fields)) (place + 1) rs)
rows_step begun place fields rs = step (are_spoken (fields_in fields)) (are_named (fields_in fields)) begun (row_at (place, fields)) (spoken_from (place + 1) rs) refl

-- ---- the numbers of rows

AreFrom-less : (m n : ℕ) (rows : List Row) → m ≤ n → AreFrom n rows → AreFrom m rows
AreFrom-less m n [] le from = tt
AreFrom-less m n (r ∷ rows) le from = (omega (arith, from.0), AreFrom-less m n rows le from.1)

numbered : (place : ℕ) (rs : List (List (List ℕ))) → AreFrom place (map row_at (enumerate_from place rs))
numbered place [] = tt
numbered place (fields ∷ rs) = (omega arith, AreFrom-less place (place + 1) (map row_at (enumerate_from (place + 1) rs)) (omega arith) (numbered (place + 1) rs))

AreFrom-filter : (keep : Row → Bool) (place : ℕ) (rows : List Row) → AreFrom place rows → AreFrom place (filter keep rows)
AreFrom-filter keep place [] from = tt
AreFrom-filter keep place (r ∷ rows) from =
    elim (keep r) as (λ b. AreFrom place (cond b (r ∷ filter keep rows) (filter keep rows))) [
      | true ↦ (from.0, AreFrom-filter keep place rows from.1)
      | false ↦ AreFrom-filter keep place rows from.1
    ]

AreFrom-without_header : (place : ℕ) (rows : List Row) → AreFrom place rows → AreFrom place (without_header rows)
AreFrom-without_header place [] from = tt
AreFrom-without_header place (r ∷ rows) from =
    elim (are_named r.fields) as (λ b. AreFrom place (cond b rows (r ∷ rows))) [ true ↦ from.1 | false ↦ from ]

AreFrom-spoken : (place : ℕ) (rs : List (List (List ℕ))) → AreFrom place (spoken_from place rs)
AreFrom-spoken place rs = AreFrom-filter _ place (map row_at (enumerate_from place rs)) (numbered place rs)

AreFrom-rows_after : (begun : Bool) (place : ℕ) (rs : List (List (List ℕ))) → AreFrom place (rows_after begun place rs)
AreFrom-rows_after true place rs = AreFrom-spoken place rs
AreFrom-rows_after false place rs = AreFrom-without_header place (spoken_from place rs) (AreFrom-spoken place rs)

pub AreFrom-rows_left : (s : Records) (place : ℕ) → place ≤ s.taken + 1 → AreFrom place (rows_left s)
unfolding rows_left
AreFrom-rows_left s place le =
    AreFrom-less place (s.taken + 1) (rows_after s.is_begun (s.taken + 1) (left_of s.reader)) le (AreFrom-rows_after s.is_begun (s.taken + 1) (left_of s.reader))

-- ---- one record more

-- after it was seen whether the record that was read last is a row
abbrev pub seen : Records → Records
seen s = record s { is_begun = s.is_begun || are_spoken (trimmed_fields s.last) }

pub nothing_left : (s : Records) → left_of s.reader ≡ [] → rows_left s ≡ []
unfolding rows_left
nothing_left s none = rw none (elim s.is_begun as (λ b. cond {A = List Row} b [] [] ≡ []) [ true ↦ refl | false ↦ refl ])

module _ (old new : Records) (fields : List (List ℕ)) (left : left_of old.reader ≡ fields ∷ left_of new.reader) (taken : new.taken ≡ old.taken + 1) where
  pub seen_count : count_of (seen new) ≡ count_of old
  unfolding count_of
  seen_count = omega (arith, taken, ap length left)

  module _ (cut : trimmed_fields new.last ≡ fields_in fields) (begun : new.is_begun ≡ old.is_begun) where
    -- the rows with a record, by its fields
    abbrev rows_with : Bool → ℕ → List (List ℕ) → List Row
    rows_with b place fs = cond (is_row b fs) (record { place = place; fields = fs } ∷ rows_after (b || are_spoken fs) (place + 1) (left_of new.reader)) (rows_after (b || are_spoken fs) (place + 1) (left_of new.reader))

    pub seen_rows : rows_left old ≡ cond (is_row new.is_begun (trimmed_fields new.last)) (row_of new ∷ rows_left (seen new)) (rows_left (seen new))
    unfolding rows_left
    seen_rows =
        ap (rows_after old.is_begun (old.taken + 1)) left
        ∙ rows_step old.is_begun (old.taken + 1) fields (left_of new.reader)
        ∙ ap (λ b. rows_with b (old.taken + 1) (fields_in fields)) (sym begun)
        ∙ ap (λ place. rows_with new.is_begun place (fields_in fields)) (sym taken)
        ∙ ap (λ fs. rows_with new.is_begun new.taken fs) (sym cut)

-- ---- records that are no rows

-- from one record to another there is no row
pub record IsSkipped (old new : Records) : Type 0 where
  pub reading : IsReading new
  pub rows : rows_left old ≡ rows_left new
  pub count : count_of new ≡ count_of old

-- what reading one record more says
pub record IsOneMore (old new : Records) : Type 0 where
  pub reading : IsReading new
  pub fields : List (List ℕ)
  pub left : left_of old.reader ≡ fields ∷ left_of new.reader
  pub cut : trimmed_fields new.last ≡ fields_in fields
  pub taken : new.taken ≡ old.taken + 1
  pub begun : new.is_begun ≡ old.is_begun

module _ (first old new after : Records) (skipped : IsSkipped first old) (more : IsOneMore old new) (same : after ≡ seen new) where
  reading_on : IsReading after
  reading_on = rw same (record { reader = more.reading.reader; room = more.reading.room })

  pub skipped_more : is_row new.is_begun (trimmed_fields new.last) ≡ false → IsSkipped first after
  skipped_more not_row = record {
    reading = reading_on;
    rows = skipped.rows ∙ (rw not_row at (seen_rows old new more.fields more.left more.taken more.cut more.begun)) ∙ ap rows_left (sym same);
    count = ap count_of same ∙ seen_count old new more.fields more.left more.taken ∙ skipped.count;
  }

  pub next_row : is_row new.is_begun (trimmed_fields new.last) ≡ true → IsNextRow first after
  next_row is_one = record {
    reading = reading_on;
    next = rw same (skipped.rows ∙ (rw is_one at (seen_rows old new more.fields more.left more.taken more.cut more.begun)));
    count = ap count_of same ∙ seen_count old new more.fields more.left more.taken ∙ skipped.count;
    from_one = rw same (omega (arith, more.taken));
    later = AreFrom-rows_left after after.taken (omega arith);
  }

pub wanted : (first old : Records) (found : ReadFault) → IsSkipped first old → found ≡ record { place = old.taken + 1; kind = fault.Memory } → IsWant first found
unfolding count_of
wanted first old found skipped same = rw same (record {
  kind = refl;
  from_one = omega arith;
  in_file = omega (arith, skipped.count);
  none_before = rw skipped.rows (AreFrom-rows_left old (old.taken + 1) (omega arith));
})
