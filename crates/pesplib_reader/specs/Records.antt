-- The rows of a file of activities or times.
use Rattle.std.specs.Prelude.{ℕ, Bool, ◌||◌, ◌&&◌, not, ◌==◌, if◌then◌else◌, List, [], ◌∷◌, map, filter, length, reverse, slice_index}
use Rattle.std.specs.Char.{is_ascii_alphabetic}
use Rattle.std.specs.List.{list_any, enumerate_from}
use Rattle.csv.specs.declared.parser.Config.{Config}
use Rattle.csv.specs.Reading.{default_config, strip_bom, records}

-- a semicolon where one stands anywhere, and else a comma
abbrev pub separator_of : List ℕ → ℕ
separator_of bytes = if list_any (λ b. b == 59) bytes then 59 else 44

-- how `csv` reads with a separator, its defaults otherwise
abbrev pub with_separator : ℕ → Config
with_separator separator = record default_config { delimiter = separator }

-- the records of a text without its byte order mark
abbrev pub text_records : List ℕ → List (List (List ℕ))
text_records text = records (with_separator (separator_of text)) text

-- the records of a file
abbrev pub records_of : List ℕ → List (List (List ℕ))
records_of bytes = text_records (strip_bom bytes)

-- a space or a tab
abbrev pub is_blank : ℕ → Bool
is_blank b = (b == 32) || (b == 9)

-- the bytes without the spaces and tabs that they begin with
abbrev pub trim_start : List ℕ → List ℕ
trim_start [] = []
trim_start (b ∷ bytes) = if is_blank b then trim_start bytes else b ∷ bytes

-- the bytes without the spaces and tabs that they end with
abbrev pub trim_end : List ℕ → List ℕ
trim_end bytes = reverse (trim_start (reverse bytes))

-- the bytes without spaces and tabs at either end
abbrev pub trim : List ℕ → List ℕ
trim bytes = trim_end (trim_start bytes)

-- the fields but for one empty field at the end
abbrev pub without_empty_end : List (List ℕ) → List (List ℕ)
without_empty_end [] = []
without_empty_end (f ∷ []) = if length f == 0 then [] else f ∷ []
without_empty_end (f ∷ g ∷ fields) = f ∷ without_empty_end (g ∷ fields)

-- the fields that a record stands for
abbrev pub fields_in : List (List ℕ) → List (List ℕ)
fields_in fields = without_empty_end (map trim fields)

-- a record by its number from 1, and its fields
pub record Row : Type 0 where
  pub place : ℕ
  pub fields : List (List ℕ)

abbrev pub row_at : ℕ × List (List ℕ) → Row
row_at r = record { place = r.0; fields = fields_in r.1 }

-- the first byte of the first field, and 0 where there is none
abbrev pub first_byte : List (List ℕ) → ℕ
first_byte [] = 0
first_byte (f ∷ fields) = slice_index f 0

-- whether fields are neither those of a blank record nor a comment
abbrev pub are_spoken : List (List ℕ) → Bool
are_spoken fields = not (length fields == 0) && not (first_byte fields == 35)

-- whether fields begin with a letter, as those of a header do
abbrev pub are_named : List (List ℕ) → Bool
are_named fields = is_ascii_alphabetic (first_byte fields)

-- the rows but for a header in front
abbrev pub without_header : List Row → List Row
without_header [] = []
without_header (r ∷ rows) = if are_named r.fields then rows else r ∷ rows

-- the records that are neither blank nor comments, numbered from a number on
abbrev pub spoken_from : ℕ → List (List (List ℕ)) → List Row
spoken_from place rs = filter (λ r. are_spoken r.fields) (map row_at (enumerate_from place rs))

-- the rows of a file
abbrev pub rows_of : List ℕ → List Row
rows_of bytes = without_header (spoken_from 1 (records_of bytes))
