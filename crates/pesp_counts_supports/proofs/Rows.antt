-- Rows that lose residues, one after another.
use Rattle.std.proofs.Common.{◌≡◌, ℕ, ◌+◌, ◌<◌, ◌≤◌, ◌==◌, ◌&&◌, not, Bool, true, false, List, [], length, get_or, set, ap, ◌∙◌, arith, IsTrue}
use Rattle.std.proofs.lemmas.Bool.Decides.{nat_tests}
use Rattle.std.proofs.lemmas.List.{get_or-set_same, get_or-set_other, get_or_past}
use Rattle.std.proofs.lemmas.List.Sums.{sum_by-set}
use Rattle.pesp_domains.specs.Domains.{holds}
use Rattle.pesp_domains.specs.Removals.{without}
use Rattle.pesp_domains.specs.Sweeps.{Of}
use Rattle.pesp_counts_arcs.specs.Ends.{is_from_to}
use Rattle.pesp_counts_supports.specs.Counts.{has_at, held_in, supporters}
use Rattle.pesp_counts_supports.specs.Supports.{held}
use Rattle.pesp_domains.proofs.RowLaws.{within_row}
use Rattle.pesp_counts_supports.proofs.Supporters.{supporters_without}

-- ---- a row that loses a residue

-- and there is a row where a pair is
pub within_rows : (rows : List (List Bool)) (p r : ℕ) → Of (has_at rows) p r → p < length rows
within_rows rows p r h = grind (arith, get_or_past rows p [], get_or_past [] r false)

-- how many the row holds is one less
pub held_taken : (row after : List Bool) (q : ℕ) → length after ≡ length row → q < length row → IsTrue (holds row q) → ((r : ℕ) → holds after r ≡ (holds row r && not (r == q))) → held_in after + 1 ≡ held_in row
held_taken row after q long within here takes =
    ap (λ n. supporters n (holds after) (λ r. true) + 1) long
    ∙ supporters_without (length row) (holds row) (holds after) (λ r. true) q takes within here

module _ (rows : List (List Bool)) (p q : ℕ) (after : List Bool) (here : Of (has_at rows) p q) (long : length after ≡ length (get_or rows p [])) (takes : (r : ℕ) → holds after r ≡ (holds (get_or rows p []) r && not (r == q))) where
  -- and so is how many all rows hold
  pub held_set : held (set rows p after) + 1 ≡ held rows
  held_set =
      let within = within_rows rows p q here in
      let one_less = held_taken (get_or rows p []) after q long (within_row (get_or rows p []) q here) here takes in
      let sum = sum_by-set held_in rows p after [] within in
      omega (arith, one_less, sum)

  -- the pair goes, and no other
  pub rows_without : (e r : ℕ) → has_at (set rows p after) e r ≡ without (has_at rows) p q e r
  rows_without e r =
      let same = get_or-set_same rows p after [] (within_rows rows p q here) in
      grind (arith, nat_tests, same, get_or-set_other rows p e after [], takes r)

-- ---- the residues of one row, one after another

-- the residues from one on and below n that pass go from the row of a place, and no other pair
abbrev pub Clears : ℕ → (ℕ → Bool) → ℕ → ℕ → List (List Bool) → List (List Bool) → Type 0
Clears place f low n before after =
    (p r : ℕ) → has_at after p r ≡ (has_at before p r && not (p == place && is_from_to low n r && f r))

module _ (place : ℕ) (f : ℕ → Bool) (low : ℕ) (before : List (List Bool)) where
  -- of no residues none goes
  pub clears_none : Clears place f low low before before
  clears_none p r = grind (arith, nat_tests)

  -- one that passes goes
  pub clears_taken : (n : ℕ) (now after : List (List Bool)) → low ≤ n → f n ≡ true → ((p r : ℕ) → has_at after p r ≡ without (has_at now) place n p r) → Clears place f low n before now → Clears place f low (n + 1) before after
  clears_taken n now after le passes takes clears p r = grind (arith, nat_tests, takes p r, clears p r)

  -- one that does not pass, or is not in the row, changes nothing
  pub clears_passed : (n : ℕ) (now : List (List Bool)) → (has_at now place n && f n) ≡ false → Clears place f low n before now → Clears place f low (n + 1) before now
  clears_passed n now stays clears p r = grind (arith, nat_tests, clears p r)

  -- and so do residues one after another of which none passes or is in the row
  pub clears_skipped : (from n : ℕ) (now : List (List Bool)) → from ≤ n → ((r : ℕ) → from ≤ r → r < n → (has_at now place r && f r) ≡ false) → Clears place f low from before now → Clears place f low n before now
  clears_skipped from n now le none clears p r = grind (arith, nat_tests, clears p r, none r)
