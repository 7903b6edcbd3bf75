-- Boxes with one range cut.
use Rattle.std.specs.Prelude.{◌≡◌, ℕ, ◌+◌, ◌<◌, ◌≤ℤ◌, List, length, slice_index_or, slice_set, sum_by}
use Rattle.pesp_search_cycles.specs.declared.boxes.Boxes.{Boxes}
use Rattle.pesp_search_cycles.specs.declared.boxes.Place.{Place}
use Rattle.pesp_search_cycles.specs.declared.boxes.Place.TheVariants.{Number, Round}
use Rattle.pesp_search_cycles.specs.declared.range.Halves.{Halves}
use Rattle.pesp_search_cycles.specs.declared.range.Range.{Range}
use Rattle.pesp_search_cycles.specs.Maps.{Net}
use Rattle.pesp_search_cycles.specs.Ranges.{AreNarrowed, IsHalved, no_range, width}

-- the same ranges
pub record AreSame (old new : Boxes) : Type 0 where
  pub numbers : new.numbers.items ≡ old.numbers.items
  pub rounds : new.rounds.items ≡ old.rounds.items

-- the boxes have the range
abbrev pub HasPlace : Boxes → Place → Type 0
HasPlace B (Number k) = k < length B.numbers.items
HasPlace B (Round k) = k < length B.rounds.items

-- the range stands at this place, and all others stay
abbrev pub IsPut : Boxes → Place → Range → Boxes → Type 0
IsPut old (Number k) range new = (new.numbers.items ≡ slice_set old.numbers.items k range) × (new.rounds.items ≡ old.rounds.items)
IsPut old (Round k) range new = (new.numbers.items ≡ old.numbers.items) × (new.rounds.items ≡ slice_set old.rounds.items k range)

-- the ranges have only the numbers that those of others have, which may be fewer
pub record IsNarrowed (old others new : Boxes) : Type 0 where
  pub numbers : AreNarrowed old.numbers.items others.numbers.items new.numbers.items
  pub rounds : AreNarrowed old.rounds.items others.rounds.items new.rounds.items

-- what each split lessens
abbrev pub size : Boxes → ℕ
size B = sum_by width B.numbers.items + sum_by width B.rounds.items

-- the halves are those of the range at this place: of rounds by whole periods
abbrev pub IsCut : Net → Boxes → Place → Halves → Type 0
IsCut N B (Number k) halves = IsHalved 1 (slice_index_or B.numbers.items k no_range) halves
IsCut N B (Round k) halves = IsHalved N.network.period (slice_index_or B.rounds.items k no_range) halves

-- no range has several numbers
abbrev pub AreSingle : List Range → Type 0
AreSingle ranges =
    (k : ℕ) → k < length ranges → (slice_index_or ranges k no_range).high ≤ℤ (slice_index_or ranges k no_range).low
