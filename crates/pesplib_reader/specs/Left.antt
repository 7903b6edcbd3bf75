-- What is left of a file that is read record by record.
use Rattle.std.specs.Prelude.{◌≡◌, ℕ, ◌+◌, ◌-◌, ◌<◌, ◌≤◌, ◌^◌, Bool, true, false, ◌||◌, ◌&&◌, not, if◌then◌else◌, List, [], ◌∷◌, map, length, Option, Some, unwrap_or, ⊤}
use Rattle.std.specs.Borrow.{Bor}
use Rattle.csv.specs.Machine.{ends_at_end}
use Rattle.csv.specs.Reading.{Ready, is_flexible, reader_config, reader_state, reader_trim, records_from, source_of}
use Rattle.csv.specs.Records as csv
use Rattle.csv.specs.declared.error.ErrorKind.{ErrorKind}
use Rattle.csv.specs.declared.error.ErrorKind.TheVariants as error
use Rattle.csv.specs.declared.reader.Reader.{Reader}
use Rattle.csv.specs.declared.reader.Trim.TheVariants as trim_of
use Rattle.pesplib_reader.specs.declared.fault.ReadFault.{ReadFault}
use Rattle.pesplib_reader.specs.declared.fault.FaultKind.TheVariants as fault
use Rattle.pesplib_reader.specs.declared.records.Records.{Records}
use Rattle.pesplib_reader.specs.Records.{Row, are_named, are_spoken, spoken_from, trim, without_header}

-- a reader of bytes in memory
abbrev pub BytesReader : Type 0
BytesReader = Reader (Bor (List ℕ))

-- the bytes that a reader has left, where they are known
abbrev pub source_in : BytesReader → Option (List ℕ)
source_in r = source_of (λ s. Some s.now) r

-- the bytes that a reader has left
unfoldable pub unread : BytesReader → List ℕ
unread r = unwrap_or (source_in r) []

-- the records that a reader has left
unfoldable pub left_of : BytesReader → List (List (List ℕ))
left_of r = records_from (reader_config r) (length (unread r) + 1) (reader_state r) (unread r)

-- an error of memory or of the device: not of a record's length, nor of its text
abbrev pub IsOfMemory : ErrorKind → Type 0
IsOfMemory error.OutOfMemory = ⊤
IsOfMemory (error.Io e) = ⊤
IsOfMemory (error.UnequalLengths pos expected len) = ⊥
IsOfMemory (error.Utf8 pos e) = ⊥
IsOfMemory (error.Serialize text) = ⊥
IsOfMemory (error.Deserialize pos e) = ⊥

-- a reader that stands between two records of bytes that are known, and takes records of any lengths and each field as it is
pub record IsBetween (r : BytesReader) : Type 0 where
  pub plain : reader_trim r ≡ trim_of.None
  pub flexible : is_flexible r ≡ true
  pub ready : Ready r
  pub known : source_in r ≡ Some (unread r)
  pub between : ends_at_end (reader_state r) ≡ false

-- the fields of a record without blanks around them
unfoldable pub trimmed_fields : csv.Row → List (List ℕ)
trimmed_fields r = map trim (csv.fields_of r)

-- whether a record with these fields is a row, where one that is neither blank nor a comment came before it or not
abbrev pub is_row : Bool → List (List ℕ) → Bool
is_row is_begun fields = are_spoken fields && (is_begun || not (are_named fields))

-- the rows of records that are numbered from a number on
abbrev pub rows_after : Bool → ℕ → List (List (List ℕ)) → List Row
rows_after is_begun place rs = if is_begun then spoken_from place rs else without_header (spoken_from place rs)

-- the rows that are left
unfoldable pub rows_left : Records → List Row
rows_left s = rows_after s.is_begun (s.taken + 1) (left_of s.reader)

-- how many records there are, read and left
unfoldable pub count_of : Records → ℕ
count_of s = s.taken + length (left_of s.reader)

-- each row's number is at least this one
abbrev pub AreFrom : ℕ → List Row → Type 0
AreFrom place [] = Unit {0}
AreFrom place (r ∷ rows) = (place ≤ r.place) × AreFrom place rows

-- the reading stands between two records, and its count has room for those that are left
pub record IsReading (s : Records) : Type 0 where
  pub reader : IsBetween s.reader
  pub room : s.taken + length (unread s.reader) < 2 ^ 64 - 1

-- the row of the record that was read last
abbrev pub row_of : Records → Row
row_of s = record { place = s.taken; fields = trimmed_fields s.last }

-- the reading went on to the next row
pub record IsNextRow (old new : Records) : Type 0 where
  pub reading : IsReading new
  pub next : rows_left old ≡ row_of new ∷ rows_left new
  pub count : count_of new ≡ count_of old
  pub from_one : 0 < new.taken
  pub later : AreFrom new.taken (rows_left new)

-- out of memory at a record that is left, or after all, and at no row before the next one
pub record IsWant (s : Records) (found : ReadFault) : Type 0 where
  pub kind : found.kind ≡ fault.Memory
  pub from_one : 0 < found.place
  pub in_file : found.place ≤ count_of s + 1
  pub none_before : AreFrom found.place (rows_left s)
