-- How many residues of a set pass a test, and how that changes as one goes.
use Rattle.std.proofs.Common.{◌≡◌, ℕ, ◌+◌, ◌<◌, ◌≤◌, ◌==◌, Bool, ◌&&◌, not, cond, zero, suc, refl, ◌∙◌, ap, inl, inr, arith, IsTrue}
use Rattle.std.proofs.lemmas.Bool.Decides.{nat_tests}
use Rattle.std.proofs.lemmas.Bool.{cases_eq, cases_Bool, and_parts, and_from}
use Rattle.pesp_counts_supports.specs.Counts.{supporters}

abbrev pub one : Bool → ℕ
one b = cond b 1 0

pub one_le : (b : Bool) → one b ≤ 1
one_le b = grind arith

-- sets that agree below n have the same
pub supporters_same : (n : ℕ) (S S' f g : ℕ → Bool) → ((s : ℕ) → s < n → S' s ≡ S s) → ((s : ℕ) → s < n → g s ≡ f s) → supporters n S' g ≡ supporters n S f
supporters_same zero S S' f g same also = refl
supporters_same (suc n) S S' f g same also =
    let rest = supporters_same n S S' f g (λ s l. same s (omega (arith, l))) (λ s l. also s (omega (arith, l))) in
    rw (same n (omega arith), also n (omega arith), rest) refl

-- as a residue goes, the count falls by one where it passed
pub supporters_without : (n : ℕ) (S S' f : ℕ → Bool) (r : ℕ) → ((s : ℕ) → S' s ≡ (S s && not (s == r))) → r < n → IsTrue (S r) → supporters n S' f + one (f r) ≡ supporters n S f
supporters_without zero S S' f r goes l here = absurd (omega (arith, l))
supporters_without (suc n) S S' f r goes l here =
    elim (cases_eq n r) [
      | inl same ↦
          let rest = supporters_same n S S' f f (λ s m. grind (arith, nat_tests, goes s, same, m)) (λ s m. refl) in
          grind (arith, nat_tests, rest, goes n, same, here)
      | inr apart ↦
          let rest = supporters_without n S S' f r goes (omega (arith, l, apart)) here in
          grind (arith, nat_tests, rest, goes n, apart)
    ]

-- a count that is not 0 has a partner, and one that is 0 has none
pub supporters_some : (n : ℕ) (S f : ℕ → Bool) → 0 < supporters n S f → (s : ℕ) × (s < n) × IsTrue (S s) × IsTrue (f s)
supporters_some zero S f l = absurd (omega (arith, l))
supporters_some (suc n) S f l =
    elim (cases_Bool (S n && f n)) [
      | inl h ↦ let w = and_parts (S n) (f n) h in (n, omega arith, w.0, w.1)
      | inr h ↦ let k = (rw h at l) in let w = supporters_some n S f (omega (arith, k)) in (w.0, omega (arith, w.1), w.2, w.3)
    ]

pub supporters_none : (n : ℕ) (S f : ℕ → Bool) → supporters n S f ≡ 0 → (s : ℕ) → s < n → IsTrue (S s) → IsTrue (f s) → ⊥
supporters_none zero S f z s l h k = absurd (omega (arith, l))
supporters_none (suc n) S f z s l h k =
    elim (cases_eq n s) [
      | inl same ↦
          let passes = and_from (S n) (f n) (ap S same ∙ h) (ap f same ∙ k) in
          let one = rw passes at z in
          absurd (omega (arith, one))
      | inr ne ↦ supporters_none n S f (omega (arith, z)) s (omega (arith, l, ne)) h k
    ]

pub supporters_from : (n : ℕ) (S f : ℕ → Bool) (s : ℕ) → s < n → IsTrue (S s) → IsTrue (f s) → 0 < supporters n S f
supporters_from n S f s l h k =
    elim (cases_eq (supporters n S f) 0) [
      | inl z ↦ absurd (supporters_none n S f z s l h k)
      | inr ne ↦ omega (arith, ne)
    ]
