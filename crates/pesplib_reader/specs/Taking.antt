-- Rows that are taken one after another up to the first fault.
use Rattle.std.specs.Prelude.{◌≡◌, ◌⊎◌, ℕ, ◌+◌, ◌<◌, ◌≤◌, List, [], ◌∷◌, length, Option, Result, Ok, Err, IfErr, MatchResult}
use Rattle.pesp_base.specs.Refusals.{unless_refused}
use Rattle.pesplib_reader.specs.declared.fault.ReadFault.{ReadFault}
use Rattle.pesplib_reader.specs.declared.fault.FaultKind.{FaultKind}
use Rattle.pesplib_reader.specs.declared.fault.FaultKind.TheVariants as fault
use Rattle.pesplib_reader.specs.Records.{Row, records_of}

-- a value, or a fault at its record
abbrev pub at_place : {X : Type 0} → ℕ → Result X FaultKind → Result X ReadFault
at_place place (Ok x) = Ok x
at_place place (Err kind) = Err (record { place = place; kind = kind })

-- what comes of a value, or the fault
abbrev pub on_ok : {X : Type 0} → (X → Result X ReadFault) → Result X ReadFault → Result X ReadFault
on_ok next (Ok x) = next x
on_ok next (Err first) = Err first

-- a kind of file: the faults that a row may have after what the rows before it stand for, in order, and what it adds to that
module _ {X : Type 0} (faults : X → List (List ℕ) → List (Option FaultKind)) (add : X → List (List ℕ) → X) where
  -- what stands there with one more row, or its first fault
  abbrev pub row_taken : X → List (List ℕ) → Result X FaultKind
  row_taken x fields = unless_refused (faults x fields) (add x fields)

  -- what rows stand for, one after another, or the fault of the first row that has one
  abbrev pub taken : X → List Row → Result X ReadFault
  taken x [] = Ok x
  taken x (r ∷ rows) = on_ok (λ y. taken y rows) (at_place r.place (row_taken x r.fields))

-- the first fault of a row, or out of memory where it has none
abbrev pub IsTakeFault : {X : Type 0} → Result X FaultKind → FaultKind → Type 0
IsTakeFault stands kind = MatchResult stands (λ _. kind ≡ fault.Memory) (λ first. kind ≡ first)

-- out of memory at one of the records or after them, before which no row has a fault
pub record IsMemoryFault {X : Type 0} (records : ℕ) (stands : Result X ReadFault) (found : ReadFault) : Type 0 where
  pub kind : found.kind ≡ fault.Memory
  pub from_one : 0 < found.place
  pub in_file : found.place ≤ records + 1
  pub none_before : IfErr stands (λ first. found.place ≤ first.place)

-- the fault of what a file stands for, or out of memory
abbrev pub IsReadFault : {X : Type 0} → List ℕ → Result X ReadFault → ReadFault → Type 0
IsReadFault bytes stands found = (stands ≡ Err found) ⊎ IsMemoryFault (length (records_of bytes)) stands found
