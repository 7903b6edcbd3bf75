-- The ends of an activity pass what the activity joins.
use Rattle.std.proofs.Common.{◌≡◌, ℕ, ◌+◌, ◌-◌, ◌%◌, ◌<◌, ◌≤◌, ◌↔◌, IsTrue, nat_lt, ℤ, pos, neg_ℤ, ◌+ℤ◌, ◌-ℤ◌, ◌*ℤ◌, ◌≤ℤ◌, sym, ap, subst, ◌∙◌, inl, inr, arith, ltb→lt, T}
use Rattle.std.proofs.Math.IntN.{pos-*ℤ-pos}
use Rattle.std.proofs.lemmas.Bool.{cases_lt, lt-ltb}
use Rattle.std.proofs.lemmas.Int.{ints}
use Rattle.pesp_base.specs.Bounds.{Bounds}
use Rattle.pesp_base.specs.Residues.{reach}
use Rattle.pesp_base.specs.Tensions.{IsMet, residue, slack_of}
use Rattle.pesp_base.proofs.Laws.{against, quotient, residue_below, residue_is, spread}
use Rattle.pesp_base.proofs.ResidueLaws.{met_within_reach, residue-below_first, residue-residue_add, residue_unique}
use Rattle.pesp_domains.proofs.Around.{residue_from}
use Rattle.pesp_counts_arcs.specs.declared.end.End.{End}
use Rattle.pesp_counts_arcs.specs.Ends.{passes}

-- how far a residue is above another one and an offset, around the period
far_is : (period r s first : ℕ) (z : ℤ) → 0 < period → first ≡ residue period z → (s + (period - (r + first) % period)) % period ≡ residue period (pos s -ℤ (pos r +ℤ z))
far_is period r s first z some is =
    let b : ℕ = (r + first) % period in
    let whole : pos first +ℤ pos r ≡ pos (r + first) = omega (arith, ints) in
    let sum : residue period (pos first +ℤ pos r) ≡ b = ap (residue period) whole in
    let turned : z +ℤ pos r ≡ pos r +ℤ z = omega (arith, ints) in
    let there : b ≡ residue period (pos r +ℤ z) = sym sum ∙ ap (λ n. residue period (pos n +ℤ pos r)) is ∙ residue-residue_add period z (pos r) some ∙ ap (residue period) turned in
    let low : b ≤ period = (let l = residue_below period (pos r +ℤ z) some in omega (arith, there, l)) in
    sym (residue-below_first period s b some low) ∙ ap (λ n. residue period (pos s -ℤ pos n)) there ∙ residue_from period (pos s) (pos r +ℤ z) some

less : (a b : ℕ) → IsTrue (nat_lt a b) ↔ (a < b)
less a b = ((λ h. ltb→lt a b (subst T (sym h) tt)), (λ h. lt-ltb a b h))

module _ (period : ℕ) (span : Bounds) (some : 0 < period) (in_order : span.lower ≤ℤ span.upper) (end : End) (width : end.width ≡ reach period span + 1) where
  -- at the tail what stands from the lower bound on passes
  pub tail_passes : end.first ≡ residue period span.lower → (r s : ℕ) → IsTrue (passes period end r s) ↔ IsMet period span r s
  tail_passes first r s =
      let same : pos s -ℤ (pos r +ℤ span.lower) ≡ pos s -ℤ pos r -ℤ span.lower = omega (arith, ints) in
      let far : (s + (period - (r + end.first) % period)) % period ≡ slack_of period span r s = far_is period r s end.first span.lower some first ∙ ap (residue period) same in (
        (λ h. (met_within_reach period span some in_order r s).1 (let l = (less _ _).0 h in omega (arith, l, far, width))),
        (λ m. (less _ _).1 (let l = (met_within_reach period span some in_order r s).0 m in omega (arith, l, far, width))),
      )

  -- at the head what stands up to the lower bound below passes: the least of it is the upper one below
  pub head_passes : end.first ≡ residue period (neg_ℤ span.lower -ℤ pos (reach period span)) → (s r : ℕ) → IsTrue (passes period end s r) ↔ IsMet period span r s
  head_passes first s r =
      let k : ℕ = slack_of period span r s in
      let w : ℕ = reach period span in
      let q : ℤ = quotient period (pos s -ℤ pos r -ℤ span.lower) in
      let parts = residue_is period (pos s -ℤ pos r -ℤ span.lower) some in
      let small = residue_below period (pos s -ℤ pos r -ℤ span.lower) some in
      let far = far_is period s r end.first (neg_ℤ span.lower -ℤ pos w) some first in
      let less_w : k ≤ w → (r + (period - (s + end.first) % period)) % period ≡ w - k =
      λ le. far ∙ residue_unique period (pos r -ℤ (pos s +ℤ (neg_ℤ span.lower -ℤ pos w))) (neg_ℤ q) (w - k) (omega (arith, small, le)) (omega (arith, ints, parts, against period q, le))
      in
      let more_w : w < k → (r + (period - (s + end.first) % period)) % period ≡ period + w - k =
      λ lt. far ∙ residue_unique period (pos r -ℤ (pos s +ℤ (neg_ℤ span.lower -ℤ pos w))) (neg_ℤ q -ℤ pos 1) (period + w - k) (omega (arith, small, lt)) (omega (arith, ints, parts, small, lt, against period q, spread period (neg_ℤ q) (neg_ℤ (pos 1)), against period (pos 1), one_period))
      in (
        (λ h. (met_within_reach period span some in_order r s).1
            (elim (cases_lt w k) [
              | inl over ↦ let l = (less _ _).0 h in let e = more_w over in absurd (omega (arith, l, e, width, small, over))
              | inr within ↦ omega (arith, within)
            ])),
        (λ m.
            let le = (met_within_reach period span some in_order r s).0 m in
            let e = less_w le in
            (less _ _).1 (omega (arith, e, le, width))),
      )
    where
      one_period : pos period *ℤ pos 1 ≡ pos period
      one_period = pos-*ℤ-pos period 1 ∙ ap pos (omega arith)
