-- A residue is so many steps from the first one of a window exactly where it is fewer steps up from there than there are residues.
use Rattle.std.proofs.Common.{◌≡◌, ℕ, ◌+◌, ◌%◌, ◌<◌, ◌↔◌, IsTrue, Bool, true, false, ◌==◌, nat_lt, pos, ◌+ℤ◌, ◌-ℤ◌, inl, inr, refl, sym, ap, subst, ◌∙◌, arith, mod-lt}
use Rattle.std.proofs.lemmas.Bool.{cases_eq, eq-eqb, ne_eqb, lt-ltb, ltb-true, and_parts}
use Rattle.std.proofs.lemmas.Int.{ints}
use Rattle.std.proofs.Math.Nat.{mod-le, mod-eq_of_lt}
use Rattle.pesp_base.specs.Tensions.{residue}
use Rattle.pesp_base.specs.Windows.{Interval, IsHeld, is_held, at_time}
use Rattle.pesp_base.proofs.Laws.{residue_below}
use Rattle.pesp_base.proofs.ResidueLaws.{residue-residue_sub, residue_after_rise}

-- the residue that is k steps from the first one is so many steps up from it as k is past whole periods
pub steps : (T first k : ℕ) → 0 < T → residue T (pos ((first + k) % T) -ℤ pos first) ≡ k % T
steps T first k some =
    let rest : pos (first + k) -ℤ pos first ≡ pos k = omega (arith, ints) in
    residue-residue_sub T (pos (first + k)) (pos first) some ∙ ap (residue T) rest

module _ (T : ℕ) (w : Interval) (r : ℕ) (some : 0 < T) where
  held_from : IsHeld T w r → is_held T w r ≡ true
  held_from h =
      let below : nat_lt r T ≡ true = lt-ltb r T (subst (λ s. s < T) h.2 (mod-lt (w.first + h.0) some)) in
      let near : residue T (pos r -ℤ pos w.first) ≡ h.0 % T = ap (λ s. residue T (pos s -ℤ pos w.first)) (sym h.2) ∙ steps T w.first h.0 some in
      rw (below, near) (lt-ltb (h.0 % T) w.length (omega (arith, mod-le h.0 T, h.1)))

  from_held : is_held T w r ≡ true → IsHeld T w r
  from_held h =
      let both = and_parts (nat_lt r T) _ h in
      let k : ℕ = residue T (pos r -ℤ pos w.first) in
      let up : residue T (pos w.first +ℤ pos k) ≡ r = residue_after_rise T (pos w.first) k r (ltb-true r T both.0) refl in
      (k, ltb-true k w.length both.1, up)

  pub held_is : IsTrue (is_held T w r) ↔ IsHeld T w r
  held_is = (from_held, held_from)

-- ---- windows of one residue, and of all

-- the first residue, after no step
pub after_no_step : (T t : ℕ) → t < T → (t + 0) % T ≡ t
after_no_step T t below =
    let none : t + 0 ≡ t = omega arith in
    rw none (mod-eq_of_lt below)

only_true : (b : Bool) → (b ≡ true → ⊥) → b ≡ false
only_true true not = absurd (not refl)
only_true false not = refl

-- a window of one time holds that time alone
pub held-at_time : (T t r : ℕ) → t < T → is_held T (at_time t) r ≡ (t == r)
held-at_time T t r below =
    let some : 0 < T = omega (arith, below) in
    elim (cases_eq t r) [
      | inl same ↦ rw (eq-eqb t r same) (held_from T (at_time t) r some (0, omega arith, after_no_step T t below ∙ same))
      | inr apart ↦ rw (ne_eqb t r apart) (only_true (is_held T (at_time t) r) (λ h. apart (reached (from_held T (at_time t) r some h))))
    ]
  where
    reached : IsHeld T (at_time t) r → t ≡ r
    reached (k, few, is) =
        let none : k ≡ 0 = omega (arith, few) in
        sym (after_no_step T t below) ∙ ap (λ n. (t + n) % T) (sym none) ∙ is

-- a window as long as the period holds each residue
pub held-full : (T : ℕ) (w : Interval) (r : ℕ) → w.length ≡ T → r < T → is_held T w r ≡ true
held-full T w r full below =
    rw (lt-ltb r T below, full) (lt-ltb (residue T (pos r -ℤ pos w.first)) T (residue_below T (pos r -ℤ pos w.first) (omega (arith, below))))
