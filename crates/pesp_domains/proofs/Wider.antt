-- Whether a span admits a pair of residues that another one does not depends on how far one is ahead of the other alone.
use Rattle.std.proofs.Common.{◌≡◌, ℕ, ◌<◌, ◌&&◌, not, true, false, ℤ, pos, neg_ℤ, ◌+ℤ◌, ◌-ℤ◌, ◌*ℤ◌, ◌≤ℤ◌, sym, ap, subst, inl, inr, IsTrue, ◌↔◌, arith}
use Rattle.std.specs.List.{range_with_len}
use Rattle.std.proofs.lemmas.Bool.{and_from, cases_Bool, false≢true}
use Rattle.std.proofs.lemmas.Int.{ints}
use Rattle.pesp_base.specs.Bounds.{Bounds}
use Rattle.pesp_base.specs.Tensions.{IsMet, is_met, residue}
use Rattle.pesp_base.proofs.Laws.{met_is, quotient, residue_below, residue_is, spread}
use Rattle.pesp_domains.proofs.Families.{and_left, and_right, in_range, none_passes, of_range, passing}
use Rattle.pesp_domains.specs.Loosening.{AdmitsNewPair, admits_more}

-- whole periods change nothing of what meets
met_ahead : (period : ℕ) (span : Bounds) (r s d : ℕ) (q : ℤ) → pos s -ℤ pos r ≡ pos period *ℤ q +ℤ pos d → IsMet period span r s → IsMet period span 0 d
met_ahead period span r s d q is m =
    let e : pos d -ℤ pos 0 +ℤ pos period *ℤ (m.0 +ℤ q) ≡ pos s -ℤ pos r +ℤ pos period *ℤ m.0 = omega (arith, ints, is, spread period m.0 q) in
    (m.0 +ℤ q, subst (λ x. span.lower ≤ℤ x) (sym e) m.1, subst (λ x. x ≤ℤ span.upper) (sym e) m.2)

met_back : (period : ℕ) (span : Bounds) (r s d : ℕ) (q : ℤ) → pos s -ℤ pos r ≡ pos period *ℤ q +ℤ pos d → IsMet period span 0 d → IsMet period span r s
met_back period span r s d q is m =
    let e : pos s -ℤ pos r +ℤ pos period *ℤ (m.0 +ℤ neg_ℤ q) ≡ pos d -ℤ pos 0 +ℤ pos period *ℤ m.0 = omega (arith, ints, is, spread period (m.0 +ℤ neg_ℤ q) q, back) in
    (m.0 +ℤ neg_ℤ q, subst (λ x. span.lower ≤ℤ x) (sym e) m.1, subst (λ x. x ≤ℤ span.upper) (sym e) m.2)
  where
    whole : (m.0 +ℤ neg_ℤ q) +ℤ q ≡ m.0
    whole = omega (arith, ints)

    back : pos period *ℤ ((m.0 +ℤ neg_ℤ q) +ℤ q) ≡ pos period *ℤ m.0
    back = ap (λ k. pos period *ℤ k) whole

-- where a span admits no more than another, what it joins the other one joins
pub no_more_met : (period : ℕ) (old new : Bounds) → 0 < period → admits_more period old new ≡ false → (r s : ℕ) → IsMet period new r s → IsMet period old r s
no_more_met period old new some less r s m =
    let d : ℕ = residue period (pos s -ℤ pos r) in
    let q : ℤ = quotient period (pos s -ℤ pos r) in
    let is = residue_is period (pos s -ℤ pos r) some in
    let met : is_met period new 0 d ≡ true = (met_is period new 0 d some).1 (met_ahead period new r s d q is m) in
    elim (cases_Bool (is_met period old 0 d)) [
      | inl old_met ↦ met_back period old r s d q is ((met_is period old 0 d some).0 old_met)
      | inr not_met ↦
          absurd (none_passes (λ d. is_met period new 0 d && not (is_met period old 0 d)) (range_with_len 0 period) less d
          (in_range 0 period d (omega arith) (let l = residue_below period (pos s -ℤ pos r) some in omega (arith, l)))
          (and_from _ _ met (ap not not_met)))
    ]

-- a distance at which one span admits and the other one does not is a pair of residues
pair_of : (period : ℕ) (old new : Bounds) → 0 < period → admits_more period old new ≡ true → AdmitsNewPair period old new
pair_of period old new some more =
    let w = passing (λ d. is_met period new 0 d && not (is_met period old 0 d)) (range_with_len 0 period) more in
    let d = w.0 in
    let below = (of_range 0 period d w.1).1 in
    let met = (met_is period new 0 d some).0 (and_left _ _ w.2) in
    let unmet = and_right (is_met period new 0 d) (not (is_met period old 0 d)) w.2 in
    (0, d, some, omega (arith, below), met, λ old_met. false≢true (rw ((met_is period old 0 d some).1 old_met) at unmet))

pub wider_is : (period : ℕ) (old new : Bounds) → 0 < period → IsTrue (admits_more period old new) ↔ AdmitsNewPair period old new
wider_is period old new some = (pair_of period old new some, more)
  where
    more : AdmitsNewPair period old new → IsTrue (admits_more period old new)
    more (r, s, rl, sl, met, unmet) =
        elim (cases_Bool (admits_more period old new)) [
          | inl is ↦ is
          | inr less ↦ absurd (unmet (no_more_met period old new some less r s met))
        ]
