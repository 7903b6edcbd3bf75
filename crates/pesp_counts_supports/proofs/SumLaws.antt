-- Sums of a set over three periods: what a window holds of the set is a difference of two of them.
use Rattle.std.proofs.Common.{◌≡◌, ℕ, zero, suc, ◌+◌, ◌-◌, ◌*◌, ◌%◌, ◌<◌, ◌≤◌, Bool, List, length, get_or, set, sym, ap, ◌∙◌, ◌⊎◌, inl, inr, arith, add-one, add-suc, add-zero}
use Rattle.std.proofs.Math.Nat.{add-mod_left}
use Rattle.std.proofs.lemmas.Bool.{cases_lt}
use Rattle.std.proofs.lemmas.List.{get_or-set_other, get_or-set_same}
use Rattle.pesp_counts_arcs.specs.declared.end.End.{End}
use Rattle.pesp_counts_arcs.specs.Ends.{passes}
use Rattle.pesp_counts_supports.specs.Blocks.{AreSums, sum_below}
use Rattle.pesp_counts_supports.specs.Counts.{supporters}
use Rattle.pesp_counts_supports.specs.Supports.{around}
use Rattle.pesp_counts_supports.proofs.Partners.{supporters_around}
use Rattle.pesp_counts_supports.proofs.Supporters.{one}

-- ---- sums of a set

-- no more than there are residues
pub sum_le : (T : ℕ) (D : ℕ → Bool) (n : ℕ) → sum_below T D n ≤ n
sum_le T D zero = omega arith
sum_le T D (suc n) = let rest = sum_le T D n in grind (arith, rest)

-- one residue more
pub sum_more : (T : ℕ) (D : ℕ → Bool) (i : ℕ) → sum_below T D (i + 1) ≡ sum_below T D i + one (D (i % T))
sum_more T D i = rw add-one (omega arith)

-- those of a window come to those below it
pub sum_window : (T : ℕ) (D : ℕ → Bool) (first width : ℕ) → sum_below T D (first + width) ≡ sum_below T D first + around T D first width
sum_window T D first zero = rw add-zero (omega arith)
sum_window T D first (suc width) =
    let rest = sum_window T D first width in
    rw add-suc (omega (arith, rest))

pub sum_up : (T : ℕ) (D : ℕ → Bool) (i j : ℕ) → i ≤ j → sum_below T D i ≤ sum_below T D j
sum_up T D i j le =
    let there : i + (j - i) ≡ j = omega (arith, le) in
    let window = sum_window T D i (j - i) in
    omega (arith, window, ap (sum_below T D) there)

-- each period has as many
pub sum_again : (T : ℕ) (D : ℕ → Bool) (i : ℕ) → sum_below T D (T + i) ≡ sum_below T D i + sum_below T D T
sum_again T D zero = rw add-zero (omega arith)
sum_again T D (suc i) =
    let rest = sum_again T D i in
    let same = ap (λ n. one (D n)) (add-mod_left T i) in
    rw add-suc (omega (arith, rest, same))

-- ---- sums that are made

-- one more is what it is to be
pub set_more : (xs : List ℕ) (f : ℕ → ℕ) (q x : ℕ) → q < length xs → ((i : ℕ) → i < q → get_or xs i 0 ≡ f i) → x ≡ f q → (i : ℕ) → i < q + 1 → get_or (set xs q x) i 0 ≡ f i
set_more xs f q x within so_far is i low = grind (arith, get_or-set_same xs q x 0 within, get_or-set_other xs q i x 0, so_far i, is)

-- sums that go on as they did in the period before
module _ (T many : ℕ) (some : 0 < T) (sums : List ℕ) where
  -- are those of the set
  pub on_is : (D : ℕ → Bool) → many ≡ sum_below T D T → ((i : ℕ) → i < T → get_or sums i 0 ≡ sum_below T D i) → ((i : ℕ) → i ≤ 2 * T → get_or sums (T + i) 0 ≡ get_or sums i 0 + many) → (n i : ℕ) → i < n * T + T → i ≤ 3 * T → get_or sums i 0 ≡ sum_below T D i
  on_is D all once on zero i low most = once i (omega (arith, low))
  on_is D all once on (suc n) i low most =
      elim (cases_lt i T) [
        | inl first ↦ once i first
        | inr past ↦
            let j : ℕ = i - T in
            let there : T + j ≡ i = omega (arith, past) in
            let product : suc n * T ≡ n * T + T = omega arith in
            let rest = on_is D all once on n j (omega (arith, low, past, product)) (omega (arith, most)) in
            let goes = on j (omega (arith, most, past)) in
            let again = sum_again T D j in
            let goal : get_or sums (T + j) 0 ≡ sum_below T D (T + j) = omega (arith, rest, goes, again, all) in
            ap (λ k. get_or sums k 0) (sym there) ∙ goal ∙ ap (sum_below T D) there
      ]

  pub are_sums : (D : ℕ → Bool) → 3 * T < length sums → many ≡ sum_below T D T → ((i : ℕ) → i < T → get_or sums i 0 ≡ sum_below T D i) → ((i : ℕ) → i ≤ 2 * T → get_or sums (T + i) 0 ≡ get_or sums i 0 + many) → AreSums T D sums
  are_sums D long all once on =
      record {
        long = long;
        each = λ i most. on_is D all once on 3 i (omega (arith, most, some)) most;
      }

  -- and none is greater than so many periods have
  pub on_low : (at : ℕ) → ((i : ℕ) → i < T → get_or sums i 0 ≤ many) → ((i : ℕ) → i < at → get_or sums (T + i) 0 ≡ get_or sums i 0 + many) → (n i : ℕ) → i ≤ at → i < n * T + T → get_or sums i 0 ≤ n * many + many
  on_low at once on zero i near low = let rest = once i (omega (arith, low)) in omega (arith, rest)
  on_low at once on (suc n) i near low =
      elim (cases_lt i T) [
        | inl first ↦ let rest = once i first in let more : suc n * many ≡ n * many + many = omega arith in omega (arith, rest, more)
        | inr past ↦
            let j : ℕ = i - T in
            let there : T + j ≡ i = omega (arith, past) in
            let product : suc n * T ≡ n * T + T = omega arith in
            let more : suc n * many ≡ n * many + many = omega arith in
            let rest = on_low at once on n j (omega (arith, near)) (omega (arith, low, past, product)) in
            let goes = on j (omega (arith, near, past, some)) in
            let is = ap (λ k. get_or sums k 0) there in
            omega (arith, rest, goes, is, more)
      ]

-- ---- what a window of an end holds

pub window_holds : (T : ℕ) (D : ℕ → Bool) (sums : List ℕ) (end : End) (r : ℕ) → AreSums T D sums → r < T → end.first < T → end.width ≤ T → get_or sums (end.first + end.width + r) 0 ≡ get_or sums (end.first + r) 0 + supporters T D (passes T end r)
window_holds T D sums end r are rl first width =
    let from : ℕ = r + end.first in
    let a : end.first + r ≡ from = omega arith in
    let b : end.first + end.width + r ≡ from + end.width = omega arith in
    let low = are.each (end.first + r) (omega (arith, rl, first)) in
    let high = are.each (end.first + end.width + r) (omega (arith, rl, first, width)) in
    let is_low = ap (sum_below T D) a in
    let is_high = ap (sum_below T D) b in
    let window = sum_window T D from end.width in
    let partners = supporters_around T D end r (omega (arith, rl)) width in
    omega (arith, low, high, is_low, is_high, window, partners)

-- ---- counts that change

-- one more count is what it is to be, and no other changes
module _ (xs ys : List ℕ) (base at x : ℕ) where
  pub moved_more : (f g : ℕ → ℕ) → base + at < length xs → x + f at ≡ get_or ys (base + at) 0 + g at → ((i : ℕ) → i < at → get_or xs (base + i) 0 + f i ≡ get_or ys (base + i) 0 + g i) → (i : ℕ) → i < at + 1 → get_or (set xs (base + at) x) (base + i) 0 + f i ≡ get_or ys (base + i) 0 + g i
  moved_more f g within is so_far i low = grind (arith, get_or-set_same xs (base + at) x 0 within, get_or-set_other xs (base + at) (base + i) x 0, so_far i, is)

  pub kept_more : ((i : ℕ) → (i < base) ⊎ (base + at ≤ i) → get_or xs i 0 ≡ get_or ys i 0) → (i : ℕ) → (i < base) ⊎ (base + (at + 1) ≤ i) → get_or (set xs (base + at) x) i 0 ≡ get_or ys i 0
  kept_more so_far i out = grind (arith, get_or-set_other xs (base + at) i x 0, so_far i, out)

-- what is out of a block is out of what was passed of it
pub out_still : (base long at i : ℕ) → at ≤ long → (i < base) ⊎ (base + long ≤ i) → (i < base) ⊎ (base + at ≤ i)
out_still base long at i le out = grind (arith, out)
