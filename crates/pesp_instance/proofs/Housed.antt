-- Slots that have no values but those of their numbers, and what a change of one leaves of that.
use Rattle.std.proofs.Common.{◌≡◌, ◌≢◌, ℕ, cond, ◌==◌, List, [], ◌∷◌, Option, Some, None, slice_index_or, refl, sym, ap, ◌∙◌, inl, inr, arith}
use Rattle.std.proofs.lemmas.Bool.{cases_eq, cases_order, lt-ltb, le-ltb, eq-eqb, ne_eqb}
use Rattle.std.specs.BTreeMap.{insert_entry, is_at}
use Rattle.std.specs.Map.{lookup, remove_entry}
use Rattle.std.specs.Ordering.{nat_cmp}
use Rattle.pesp_instance.specs.Table.{AreHoused}

-- a look-up by comparison tests for the number itself
pub same_test : (n k : ℕ) → is_at (nat_cmp n) k ≡ (k == n)
same_test n k =
    elim (cases_order n k) [
      | inl same ↦ rw (le-ltb n k (omega arith), eq-eqb n k same, eq-eqb k n (sym same)) refl
      | inr apart ↦ elim apart [
        | inl below ↦ rw (lt-ltb n k below, ne_eqb k n (λ same. absurd (omega arith))) refl
        | inr above ↦ rw (le-ltb n k (omega arith), ne_eqb n k (λ same. absurd (omega arith)), ne_eqb k n (λ same. absurd (omega arith))) refl
      ]
    ]

-- ---- look-ups after a change of one number

pub lookup-insert_same : (n s : ℕ) (es : List (ℕ × ℕ)) → lookup (is_at (nat_cmp n)) (insert_entry nat_cmp es n s) ≡ Some s
lookup-insert_same n s [] = rw (same_test n n, eq-eqb n n refl) refl
lookup-insert_same n s (e ∷ es) =
    elim (cases_order n e.0) [
      | inl same ↦ rw (le-ltb n e.0 (omega arith), eq-eqb n e.0 same, same_test n e.0, eq-eqb e.0 n (sym same)) refl
      | inr apart ↦ elim apart [
        | inl below ↦ rw (lt-ltb n e.0 below, same_test n n, eq-eqb n n refl) refl
        | inr above ↦ rw (le-ltb n e.0 (omega arith), ne_eqb n e.0 (λ same. absurd (omega arith)), same_test n e.0, ne_eqb e.0 n (λ same. absurd (omega arith))) (lookup-insert_same n s es)
      ]
    ]

pub lookup-insert_other : (n m s : ℕ) (es : List (ℕ × ℕ)) → m ≢ n → lookup (is_at (nat_cmp m)) (insert_entry nat_cmp es n s) ≡ lookup (is_at (nat_cmp m)) es
lookup-insert_other n m s [] differs = rw (same_test m n, ne_eqb n m (λ same. differs (sym same))) refl
lookup-insert_other n m s (e ∷ es) differs =
    elim (cases_order n e.0) [
      | inl same ↦ rw (le-ltb n e.0 (omega arith), eq-eqb n e.0 same, same_test m e.0, ne_eqb e.0 m (λ other. differs (sym (same ∙ other)))) refl
      | inr apart ↦ elim apart [
        | inl below ↦ rw (lt-ltb n e.0 below, same_test m n, ne_eqb n m (λ same. differs (sym same))) refl
        | inr above ↦ rw (le-ltb n e.0 (omega arith), ne_eqb n e.0 (λ same. absurd (omega arith))) (ap (cond (is_at (nat_cmp m) e.0) (Some e.1)) (lookup-insert_other n m s es differs))
      ]
    ]

lookup-remove_other : (n m : ℕ) (es : List (ℕ × ℕ)) → m ≢ n → lookup (is_at (nat_cmp m)) (remove_entry (is_at (nat_cmp n)) es) ≡ lookup (is_at (nat_cmp m)) es
lookup-remove_other n m [] differs = refl
lookup-remove_other n m (e ∷ es) differs =
    elim (cases_eq e.0 n) [
      | inl same ↦ rw (same_test n e.0, eq-eqb e.0 n same, same_test m e.0, ne_eqb e.0 m (λ other. differs (sym other ∙ same))) refl
      | inr apart ↦ rw (same_test n e.0, ne_eqb e.0 n apart) (ap (cond (is_at (nat_cmp m) e.0) (Some e.1)) (lookup-remove_other n m es differs))
    ]

-- ---- slots after a change of one of them

module _ {V : Type 0} (number : V → ℕ) (old new : List (Option V)) (slot : ℕ) (others : (other : ℕ) → other ≢ slot → slice_index_or new other None ≡ slice_index_or old other None) (es : List (ℕ × ℕ)) (housed : AreHoused number old es) where
  -- a new number's value is put in
  pub AreHoused-insert : (v : V) → slice_index_or new slot None ≡ Some v → lookup (is_at (nat_cmp (number v))) es ≡ None → AreHoused number new (insert_entry nat_cmp es (number v) slot)
  AreHoused-insert v changed fresh i w at =
      elim (cases_eq i slot) [
        | inl same ↦
            let its : Some w ≡ Some v = sym at ∙ ap (λ k. slice_index_or new k None) same ∙ changed in
            let is : w ≡ v = cc in
            rw (is, same) (lookup-insert_same (number v) slot es)
        | inr apart ↦
            let there = housed i w (sym (others i apart) ∙ at) in
            let differs : number w ≢ number v = λ same. let none : None ≡ Some i = sym fresh ∙ ap (λ n. lookup (is_at (nat_cmp n)) es) (sym same) ∙ there in absurd (cc) in
            lookup-insert_other (number v) (number w) slot es differs ∙ there
      ]

  -- a value takes the place of another one of its number
  pub AreHoused-set : (v : V) → slice_index_or new slot None ≡ Some v → lookup (is_at (nat_cmp (number v))) es ≡ Some slot → AreHoused number new es
  AreHoused-set v changed is i w at =
      elim (cases_eq i slot) [
        | inl same ↦
            let its : Some w ≡ Some v = sym at ∙ ap (λ k. slice_index_or new k None) same ∙ changed in
            let that : w ≡ v = cc in
            rw (that, same) is
        | inr apart ↦ housed i w (sym (others i apart) ∙ at)
      ]

  -- a number is taken out, and its slot has no value
  pub AreHoused-remove : (n : ℕ) → slice_index_or new slot None ≡ None → lookup (is_at (nat_cmp n)) es ≡ Some slot → AreHoused number new (remove_entry (is_at (nat_cmp n)) es)
  AreHoused-remove n changed is i w at =
      elim (cases_eq i slot) [
        | inl same ↦ let none : Some w ≡ None = sym at ∙ ap (λ k. slice_index_or new k None) same ∙ changed in absurd (cc)
        | inr apart ↦
            let there = housed i w (sym (others i apart) ∙ at) in
            let differs : number w ≢ n = λ same. let both : Some i ≡ Some slot = sym there ∙ ap (λ m. lookup (is_at (nat_cmp m)) es) same ∙ is in apart (cc) in
            lookup-remove_other n (number w) es differs ∙ there
      ]
