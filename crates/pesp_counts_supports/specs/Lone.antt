-- Residues that a row holds and that have no partner at an end, and the first of them.
use Rattle.std.specs.Prelude.{◌≡◌, ℕ, ◌+◌, ◌<◌, ◌≤◌, ◌==◌, ◌&&◌, Bool, false, IsTrue, List, Option, Some, None, slice_index_or}
use Rattle.pesp_domains.specs.Domains.{holds}

-- the residue of a row is held, and of the counts from one on its own is 0
abbrev pub is_lone : List Bool → List ℕ → ℕ → ℕ → Bool
is_lone row counts from r = holds row r && (slice_index_or counts (from + r) 0 == 0)

-- the first number from one on and below another that passes, if there is one
abbrev pub IsFirst : (ℕ → Bool) → ℕ → ℕ → Option ℕ → Type 0
IsFirst test low high None = (r : ℕ) → low ≤ r → r < high → test r ≡ false
IsFirst test low high (Some first) = (low ≤ first) × (first < high) × IsTrue (test first) × ((r : ℕ) → low ≤ r → r < first → test r ≡ false)
