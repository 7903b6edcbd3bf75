-- A table of numbered values: an ordered map from numbers to slots, beside the slots.
use Rattle.std.specs.Prelude.{◌≡◌, ◌≢◌, ℕ, List, [], ◌∷◌, Option, Some, None, IsSome, slice_index_or, refl}
use Rattle.std.specs.BTreeMap.{is_at}
use Rattle.std.specs.Coded.{Coded, code_by, coded×, coded_ℕ, coded_list}
use Rattle.std.specs.List.Sorted.{IsStrictlySortedBy}
use Rattle.std.specs.Map.{keys_of, values_of, lookup}
use Rattle.std.specs.Ordering.{nat_cmp}

-- what a clause sees of a table: the values by rising number, and each number with its slot
pub record Table (V : Type 0) : Type 0 where
  pub values : List V
  pub numbers : List (ℕ × ℕ)

-- a table is stored as the pair of its fields
abbrev pub table_code : {V : Type 0} → Coded V → Coded (Table V)
table_code {V} code =
    code_by
    (List V × List (ℕ × ℕ))
    (coded× (coded_list code) (coded_list (coded× coded_ℕ coded_ℕ)))
    (λ t. (t.values, t.numbers))
    (λ p. record { values = p.0; numbers = p.1 })
    (λ _. refl)

-- the slot of a number
abbrev pub slot_of : {V : Type 0} → Table V → ℕ → Option ℕ
slot_of t number = lookup (is_at (nat_cmp number)) t.numbers

-- some number has this slot
abbrev pub IsSlot : {V : Type 0} → Table V → ℕ → Type 0
IsSlot t slot = (number : ℕ) × (slot_of t number ≡ Some slot)

-- no number has this slot
abbrev pub IsFree : ℕ → List (ℕ × ℕ) → Type 0
IsFree slot [] = Unit {0}
IsFree slot (e ∷ es) = (e.1 ≢ slot) × IsFree slot es

module _ {V : Type 0} where
  -- the entry of a number, where its slot has a value
  abbrev pub with_entry : ℕ → Option V → List (ℕ × V) → List (ℕ × V)
  with_entry number None rest = rest
  with_entry number (Some value) rest = (number, value) ∷ rest

  -- each number with the value of its slot
  abbrev pub resolved : List (Option V) → List (ℕ × ℕ) → List (ℕ × V)
  resolved slots [] = []
  resolved slots (e ∷ es) = with_entry e.0 (slice_index_or slots e.1 None) (resolved slots es)

  -- each number has a slot of its own, with a value
  abbrev pub IsLinked : List (Option V) → List (ℕ × ℕ) → Type 0
  IsLinked slots [] = Unit {0}
  IsLinked slots (e ∷ es) = IsSome (slice_index_or slots e.1 None) × IsFree e.1 es × IsLinked slots es

  -- the values of the slots, by rising number
  abbrev pub values_in : List (Option V) → List (ℕ × ℕ) → List V
  values_in slots es = values_of (resolved slots es)

  -- the table of these slots and entries
  abbrev pub table_in : List (Option V) → List (ℕ × ℕ) → Table V
  table_in slots es = record { values = values_in slots es; numbers = es }

  -- each value stands under its own number
  abbrev pub AreNumbered : (V → ℕ) → List (ℕ × V) → Type 0
  AreNumbered number [] = Unit {0}
  AreNumbered number (e ∷ es) = (number e.1 ≡ e.0) × AreNumbered number es

  -- each value that stands in a slot is the one of its number
  abbrev pub AreHoused : (V → ℕ) → List (Option V) → List (ℕ × ℕ) → Type 0
  AreHoused number slots es = (slot : ℕ) (value : V) → slice_index_or slots slot None ≡ Some value → lookup (is_at (nat_cmp (number value))) es ≡ Some slot

  -- the numbers rise, each has a slot of its own, with a value of that number, and no other slot has a value
  pub record IsTable (number : V → ℕ) (slots : List (Option V)) (es : List (ℕ × ℕ)) : Type 0 where
    pub rises : IsStrictlySortedBy nat_cmp (keys_of es)
    pub linked : IsLinked slots es
    pub numbered : AreNumbered number (resolved slots es)
    pub housed : AreHoused number slots es
