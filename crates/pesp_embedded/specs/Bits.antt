-- Domains as bits.
use Rattle.std.specs.Prelude.{◌≡◌, ◌↔◌, ℕ, zero, suc, ◌+◌, ◌*◌, ◌/◌, ◌%◌, ◌^◌, Bool, cond, bit_or, length, map, List, [], slice_index_or}
use Rattle.std.specs.Int.{bit_at}
use Rattle.std.specs.List.{range_with_len}
use Rattle.pesp_instance.specs.Network.{Network}
use Rattle.pesp_domains.specs.Domains.{InDomains, holds}

-- the bit of a residue: bit r % 8, from the lowest, of byte r / 8
abbrev pub bit_of : List ℕ → ℕ → ℕ
bit_of bytes r = bit_at (slice_index_or bytes (r / 8) 0) (r % 8)

-- the bytes are those of the period, and the bits of the event's domain are set, and no others
pub record AreBits (I : Network) (e : ℕ) (bytes : List ℕ) : Type 0 where
  pub long : length bytes ≡ (I.period + 7) / 8
  pub exact : (r : ℕ) → (bit_of bytes r ≡ 1) ↔ InDomains I [] e r

-- ---- how they are made

-- so many tests of a row from one on, the first one as the lowest bit
abbrev pub bits_from : List Bool → ℕ → ℕ → ℕ
bits_from row first zero = 0
bits_from row first (suc n) = bit_or (bits_from row first n) (cond (holds row (first + n)) (2 ^ n) 0)

-- a byte of a row
abbrev pub byte_in : List Bool → ℕ → ℕ
byte_in row place = bits_from row (8 * place) 8

-- so many bytes of a row
abbrev pub bytes_in : List Bool → ℕ → List ℕ
bytes_in row count = map (byte_in row) (range_with_len 0 count)
