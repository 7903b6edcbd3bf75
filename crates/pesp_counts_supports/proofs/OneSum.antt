-- Sums of one residue alone, and the residues of a window.
use Rattle.std.proofs.Common.{◌≡◌, ◌≢◌, ◌==◌, cond, ℕ, zero, suc, ◌+◌, ◌-◌, ◌*◌, ◌/◌, ◌%◌, ◌<◌, ◌≤◌, min, pos, ◌+ℤ◌, ◌-ℤ◌, ◌*ℤ◌, ◌⊎◌, ◌&&◌, nat_lt, Bool, IsTrue, true, false, List, ◌++◌, drop, take, length, get_or, refl, sym, ap, ◌∙◌, inl, inr, arith}
use Rattle.std.proofs.lemmas.Bool.Decides.{nat_tests}
use Rattle.std.proofs.Math.IntN.{pos-*ℤ-pos}
use Rattle.std.proofs.Math.Nat.{add-mod_left, mod-add-div}
use Rattle.std.proofs.lemmas.Bool.{cases_lt, lt-ltb}
use Rattle.std.proofs.lemmas.Grind.{common_steps}
use Rattle.std.proofs.lemmas.Int.{ints}
use Rattle.pesp_domains.proofs.Around.{far_above, far_below, mod_below}
use Rattle.pesp_base.specs.Tensions.{residue}
use Rattle.pesp_base.specs.Windows.{Interval, is_held}
use Rattle.pesp_base.proofs.Laws.{residue_below}
use Rattle.pesp_base.proofs.ResidueLaws.{residue-whole_periods}
use Rattle.pesp_base.proofs.WindowLaws.{steps}
use Rattle.pesp_counts_arcs.specs.declared.end.End.{End}
use Rattle.pesp_counts_arcs.specs.declared.end.Ranges.{Ranges}
use Rattle.pesp_counts_arcs.specs.Ends.{is_from_to, passes}
use Rattle.pesp_counts_supports.specs.declared.moving.Way.TheVariants.{In}
use Rattle.pesp_counts_supports.specs.Blocks.{sum_below}
use Rattle.pesp_counts_supports.specs.Counts.{count_at, supporters}
use Rattle.pesp_counts_supports.specs.Moves.{CanShift, IsShifted}
use Rattle.pesp_counts_supports.specs.Restored.{AreRanges, in_ranges, size_of}
use Rattle.pesp_counts_supports.proofs.Partners.{around_le, not_below, supporters_around}
use Rattle.pesp_counts_supports.proofs.Raised.{block_out}
use Rattle.pesp_counts_supports.proofs.Supporters.{one}

-- what a slice of a vector becomes, the vector holds
pub sums_written : (ws xs : List ℕ) (len : ℕ) → len ≡ length xs → length ws ≡ length xs → take len (ws ++ drop (length ws) xs) ≡ ws
sums_written ws xs len is same = grind (arith, common_steps)

-- below one residue there is none of it, and one after it
lone_below : (T q i : ℕ) → i ≤ T → sum_below T (λ r. r == q) i ≡ one (nat_lt q i)
lone_below T q zero le = grind (arith, nat_tests)
lone_below T q (suc i) le =
    let rest = lone_below T q i (omega (arith, le)) in
    let here : i % T ≡ i = mod_below T i (omega (arith, le)) in
    grind (arith, nat_tests, rest, here)

-- of all residues of a period one is that one
pub lone_all : (T q : ℕ) → q < T → 1 ≡ sum_below T (λ r. r == q) T
lone_all T q low = grind (arith, nat_tests, lone_below T q T)

-- so sums that are 0 up to it and 1 after it are those of one period
pub lone_once : (T q : ℕ) (sums : List ℕ) → ((i : ℕ) → i < q + 1 → get_or sums i 0 ≡ 0) → ((i : ℕ) → q + 1 ≤ i → i < T → get_or sums i 0 ≡ 1) → (i : ℕ) → i < T → get_or sums i 0 ≡ sum_below T (λ r. r == q) i
lone_once T q sums none one_more i low =
    let is = lone_below T q i (omega (arith, low)) in
    grind (arith, nat_tests, none i, one_more i, is, low)

-- ---- the counts of an end anew

-- they are 0 first, and then move in
module _ (T high number base : ℕ) (before zeros after : List ℕ) (high_is : high ≡ T) (base_is : base ≡ number * T) where
  pub counted_anew : (r many : ℕ) → r < T → ((i : ℕ) → base ≤ i → i < base + high → get_or zeros i 0 ≡ 0) → IsShifted In (cond (number == number && is_from_to 0 high r) many 0) (count_at T zeros number r) (count_at T after number r) → count_at T after number r ≡ many
  counted_anew r many rl none moved =
      let was : count_at T zeros number r ≡ 0 = none (number * T + r) (omega (arith, base_is)) (omega (arith, base_is, rl, high_is)) in
      grind (arith, nat_tests, rl, high_is, was, moved)

  pub count_elsewhere : (k r many : ℕ) → r < T → k ≢ number → ((i : ℕ) → (i < base) ⊎ (base + high ≤ i) → get_or zeros i 0 ≡ get_or before i 0) → IsShifted In (cond (k == number && is_from_to 0 high r) many 0) (count_at T zeros k r) (count_at T after k r) → count_at T after k r ≡ count_at T before k r
  count_elsewhere k r many rl apart out moved =
      let far = block_out T k number r apart rl in
      let was : count_at T zeros k r ≡ count_at T before k r = out (k * T + r) (grind (arith, far, base_is, high_is)) in
      grind (arith, nat_tests, moved, was)

-- no more are in a window than it is wide, so that a count of 0 has room for them
pub can_come : (T : ℕ) (D : ℕ → Bool) (end : End) (r count : ℕ) → 0 < T → end.width ≤ T → count ≡ 0 → CanShift T In (supporters T D (passes T end r)) count
can_come T D end r count some width none =
    let is = supporters_around T D end r some width in
    let few = around_le T D (r + end.first) end.width in
    omega (arith, is, few, none, width)

-- what is in a range is below its end, and from its start on
pub from_to_below : (low high r : ℕ) → IsTrue (is_from_to low high r) → r < high
from_to_below low high r h = grind (arith, nat_tests)

-- ---- the residues of a window

-- what goes with residue 0 at an end is what the window of the end holds
pub passes_held : (T : ℕ) (window : Interval) (end : End) (r : ℕ) → end.first ≡ window.first → end.width ≡ window.length → window.first < T → r < T → passes T end 0 r ≡ is_held T window r
passes_held T window end r first_is width_is first rl =
    let k : ℕ = r + (T - window.first) in
    let turned : window.first + k ≡ T + r = omega (arith, first) in
    let around : (window.first + k) % T ≡ r = rw turned (add-mod_left T r ∙ mod_below T r rl) in
    let far : residue T (pos r -ℤ pos window.first) ≡ k % T = ap (λ s. residue T (pos s -ℤ pos window.first)) (sym around) ∙ steps T window.first k (omega (arith, rl)) in
    let from : (0 + end.first) % T ≡ window.first = rw first_is (ap (λ n. n % T) (omega arith) ∙ mod_below T window.first first) in
    let below : nat_lt r T ≡ true = lt-ltb r T rl in
    rw (from, width_is, below, far) refl

-- a window is the same from the residue of its first one on, and with no more residues than the period
pub held_within : (T : ℕ) (window : Interval) (r : ℕ) → 0 < T → is_held T (record { first = window.first % T; length = min window.length T }) r ≡ is_held T window r
held_within T window r some =
    let whole = pos-*ℤ-pos T (window.first / T) in
    let parts = mod-add-div window.first T in
    let turned : pos r -ℤ pos (window.first % T) ≡ (pos r -ℤ pos window.first) +ℤ pos T *ℤ pos (window.first / T) = omega (arith, ints, whole, parts) in
    let far : residue T (pos r -ℤ pos (window.first % T)) ≡ residue T (pos r -ℤ pos window.first) = ap (residue T) turned ∙ residue-whole_periods T (pos r -ℤ pos window.first) (pos (window.first / T)) some in
    let below = residue_below T (pos r -ℤ pos window.first) some in
    rw far (grind (arith, nat_tests, below))

-- not all residues are in a window that is shorter than the period
some_out : (T : ℕ) (end : End) → end.first < T → end.width < T → (r : ℕ) × (r < T) × (passes T end 0 r ≡ false)
some_out T end first width =
    let from : (0 + end.first) % T ≡ end.first = ap (λ n. n % T) (omega arith) ∙ mod_below T end.first first in
    elim (cases_lt (end.first + end.width) T) [
      | inl low ↦
          let r : ℕ = end.first + end.width in
          let far : (r + (T - end.first)) % T ≡ end.width = far_above T end.first r first low (omega arith) ∙ omega arith in
          (r, low, rw (from, far) (not_below end.width))
      | inr high ↦
          let r : ℕ = end.first + end.width - T in
          let far : (r + (T - end.first)) % T ≡ end.width = far_below T end.first r first (omega (arith, first, width, high)) ∙ omega (arith, first, width, high) in
          (r, omega (arith, first, width, high), rw (from, far) (not_below end.width))
    ]

-- so they are fewer where a window shorter than the period has them
pub window_few : (T : ℕ) (end : End) (w : Ranges) → AreRanges T w → end.first < T → end.width < T → ((s : ℕ) → s < T → passes T end 0 s ≡ in_ranges w s) → size_of w < T
window_few T end w are first width passed =
    let (r, rl, out) = some_out T end first width in
    grind (arith, nat_tests, are.order, are.below, are.wrapped, rl, passed r rl, out)
