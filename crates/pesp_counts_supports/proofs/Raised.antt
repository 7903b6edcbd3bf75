-- Counts rise with a residue that comes, and residues come to rows.
use Rattle.std.proofs.Common.{◌≡◌, ◌≢◌, ℕ, suc, ◌+◌, ◌*◌, ◌<◌, ◌≤◌, ◌==◌, ◌&&◌, ◌||◌, not, Bool, true, false, List, [], ◌∷◌, AllPairs, ◌⊎◌, length, get_or, set, sym, ap, ◌∙◌, inl, inr, arith}
use Rattle.std.proofs.lemmas.Bool.Decides.{nat_tests}
use Rattle.std.specs.List.{Contains}
use Rattle.std.proofs.Math.Nat.{mul-le-mul_right}
use Rattle.std.proofs.lemmas.Bool.{cases_lt}
use Rattle.std.proofs.lemmas.List.{get_or-set_other, get_or-set_same, get_or_read}
use Rattle.std.proofs.lemmas.List.Sums.{sum_by-set}
use Rattle.pesp_domains.specs.Domains.{holds}
use Rattle.pesp_counts_supports.specs.Counts.{has_at, held_in, supporters}
use Rattle.pesp_counts_supports.specs.Supports.{held, joined}
use Rattle.pesp_base.proofs.Orders.{eqb_turned}
use Rattle.pesp_counts_supports.proofs.Supporters.{one, supporters_without}

-- ---- one end

-- as a residue comes, the count rises by one where it passes
pub supporters_with : (n : ℕ) (S S' f : ℕ → Bool) (r : ℕ) → ((s : ℕ) → S' s ≡ (S s || r == s)) → r < n → S r ≡ false → supporters n S' f ≡ supporters n S f + one (f r)
supporters_with n S S' f r comes l absent =
    let goes : (s : ℕ) → S s ≡ (S' s && not (s == r)) = λ s. grind (arith, nat_tests, comes s, absent) in
    sym (supporters_without n S' S f r goes l (grind (arith, nat_tests, comes r)))

-- the block of an end is before that of each later one
pub block_below : (period i h : ℕ) → i < h → i * period + period ≤ h * period
block_below period i h lt =
    let a = mul-le-mul_right period (let le : i + 1 ≤ h = omega (arith, lt) in le) in
    let b : (i + 1) * period ≡ i * period + period = omega arith in
    omega (arith, a, b)

-- a count of one end is outside of the block of another
pub block_out : (period j k r : ℕ) → j ≢ k → r < period → (j * period + r < k * period) ⊎ (k * period + period ≤ j * period + r)
block_out period j k r apart l =
    elim (cases_lt j k) [
      | inl low ↦ let b = block_below period j k low in inl (omega (arith, b, l))
      | inr high ↦ let b = block_below period k j (omega (arith, high, apart)) in inr (omega (arith, b))
    ]

-- so the counts of two ends are apart
pub blocks_apart : (period j k q r : ℕ) → j ≢ k → q < period → r < period → j * period + q ≢ k * period + r
blocks_apart period j k q r apart ql rl same =
    elim (block_out period j k q apart ql) [
      | inl low ↦ omega (arith, low, same)
      | inr high ↦ omega (arith, high, rl, same)
    ]

-- the ends to come, one after another
pub rest_apart : (m : ℕ) (rest : List ℕ) → AllPairs (λ j k. j ≢ k) (m ∷ rest) → AllPairs (λ j k. j ≢ k) rest
rest_apart m rest once i j d l h = once (suc i) (suc j) d (omega (arith, l)) (omega (arith, h))

pub next_once : (m : ℕ) (rest : List ℕ) → AllPairs (λ j k. j ≢ k) (m ∷ rest) → Contains rest m → ⊥
next_once m rest once (x, l, e) = once 0 (suc x) m (omega arith) (omega (arith, l)) (sym e)

-- ---- a residue that is put into a row

module _ (rows : List (List Bool)) (place residue : ℕ) (row item : List Bool) (within : place < length rows) (read : item ≡ get_or rows place item) (put : (r : ℕ) → holds row r ≡ (holds item r || r == residue)) where
  item_is : item ≡ get_or rows place []
  item_is = get_or_read rows place item within read []

  pub has_put : (p r : ℕ) → has_at (set rows place row) p r ≡ joined (has_at rows) place residue p r
  has_put p r =
      let same = get_or-set_same rows place row [] within in
      grind (arith, nat_tests, same, get_or-set_other rows place p row [], put r, item_is)

  pub held_put : length row ≡ length item → residue < length item → has_at rows place residue ≡ false → held (set rows place row) ≡ held rows + 1
  held_put long below absent =
      let more : held_in row ≡ held_in item + 1 =
      ap (λ n. supporters n (holds row) (λ r. true)) long
      ∙ supporters_with (length item) (holds item) (holds row) (λ r. true) residue (λ s. put s ∙ ap (λ b. holds item s || b) (eqb_turned s residue)) below (ap (λ xs. holds xs residue) item_is ∙ absent)
      in
      let sum = sum_by-set held_in rows place row [] within in
      let was : held_in item ≡ held_in (get_or rows place []) = ap held_in item_is in
      omega (arith, sum, more, was)
