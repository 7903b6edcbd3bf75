-- A table's entries, and the values that they stand for.
use Rattle.std.proofs.Common.{◌≡◌, ◌≢◌, ℕ, ◌<◌, ◌≤◌, Bool, true, false, cond, ◌==◌, not, List, [], ◌∷◌, length, map, Option, Some, None, is_some, slice_index_or, slice_set, refl, sym, ap, ◌∙◌, inl, inr, arith}
use Rattle.std.proofs.lemmas.Bool.{cases_order, lt-ltb, le-ltb, eq-eqb, ne_eqb, eqb-true}
use Rattle.std.proofs.lemmas.Bool.Decides.{nat_tests}
use Rattle.std.proofs.lemmas.Map.Keys.{sorted_head, sorted_tail, IsStrictlyIncreasing-from_sorted}
use Rattle.std.specs.declared.cmp.Ordering.TheVariants.{Less}
use Rattle.std.specs.List.{AllByRecursion}
use Rattle.std.specs.List.Sorted.{IsStrictlySortedBy, IsStrictlyIncreasing}
use Rattle.std.specs.BTreeMap.{insert_entry, is_at}
use Rattle.std.specs.Map.{keys_of, values_of, lookup, set_value, remove_entry}
use Rattle.std.specs.Ordering.{nat_cmp}
use Rattle.pesp_base.specs.Numbered.{with_number, put_in, take_out, change_in}
use Rattle.slab.specs.Slab.{Slab, get, Updates}
use Rattle.slab.proofs.SlabLemmas.{Updates-set, ContainsKey-within}
use Rattle.pesp_instance.specs.Table.{AreNumbered, IsLinked, IsTable, resolved, values_in}
use Rattle.pesp_base.proofs.Tests.{value_of}
use Rattle.pesp_instance.proofs.Housed.{same_test, AreHoused-insert, AreHoused-set, AreHoused-remove}
use Rattle.pesp_instance.proofs.Links.{slot_is_used, length-resolved, lookup-resolved, lookup-resolved-none, inserted, written, removed, remove_absent}
use Rattle.pesp_instance.proofs.Rising.{Rises, Rises-from_sorted, filter_below-above, filter_above-above, take_out-above, change_in-above}

module _ {V : Type 0} (number : V → ℕ) where
  numbers-values_of : (ps : List (ℕ × V)) → AreNumbered number ps → map number (values_of ps) ≡ keys_of ps
  numbers-values_of [] numbered = refl
  numbers-values_of (p ∷ ps) numbered = rw (numbered.0, numbers-values_of ps numbered.1) refl

  with_number-values_of : (n : ℕ) (ps : List (ℕ × V)) → AreNumbered number ps → with_number number n (values_of ps) ≡ lookup (is_at (nat_cmp n)) ps
  with_number-values_of n [] numbered = refl
  with_number-values_of n (p ∷ ps) numbered = rw (numbered.0, same_test n p.0, with_number-values_of n ps numbered.1) refl

  put_in-values_of : (v : V) (ps : List (ℕ × V)) → AreNumbered number ps → Rises number (values_of ps) → lookup (is_at (nat_cmp (number v))) ps ≡ None → values_of (insert_entry nat_cmp ps (number v) v) ≡ put_in number v (values_of ps)
  put_in-values_of v [] numbered rises absent = refl
  put_in-values_of v (p ∷ ps) numbered rises absent =
      let n = number v in
      elim (cases_order n p.0) [
        | inl same ↦ absurd (not_there (rw (same_test n p.0, eq-eqb p.0 n (sym same)) at absent))
        | inr apart ↦ elim apart [
          | inl below ↦
              let high : n ≤ number p.1 = omega (arith, numbered.0) in
              rw (lt-ltb n p.0 below, numbered.0, lt-ltb n p.0 below, le-ltb p.0 n (omega arith), filter_below-above number n (number p.1) (values_of ps) high rises.0, filter_above-above number n (number p.1) (values_of ps) high rises.0) refl
          | inr above ↦
              let later : lookup (is_at (nat_cmp n)) ps ≡ None = rw (same_test n p.0, ne_eqb p.0 n (λ same. absurd (omega arith))) at absent in
              rw (le-ltb n p.0 (omega arith), ne_eqb n p.0 (λ same. absurd (omega arith)), numbered.0, lt-ltb p.0 n above, le-ltb n p.0 (omega arith)) (ap (λ vs. p.1 ∷ vs) (put_in-values_of v ps numbered.1 rises.1 later))
        ]
      ]
    where
      not_there : {x : V} → Some x ≡ None → ⊥
      not_there same = cc

  take_out-values_of : (n : ℕ) (ps : List (ℕ × V)) → AreNumbered number ps → Rises number (values_of ps) → values_of (remove_entry (is_at (nat_cmp n)) ps) ≡ take_out number n (values_of ps)
  take_out-values_of n [] numbered rises = refl
  take_out-values_of n (p ∷ ps) numbered rises =
      rw (same_test n p.0, numbered.0) (elim (p.0 == n) as (λ b. (p.0 == n) ≡ b → values_of (cond b ps (p ∷ remove_entry (is_at (nat_cmp n)) ps)) ≡ cond (not b) (p.1 ∷ take_out number n (values_of ps)) (take_out number n (values_of ps))) [
        | true ↦ λ same.
            let low : n ≤ number p.1 = omega (arith, numbered.0, eqb-true p.0 n same) in
            sym (take_out-above number n (number p.1) (values_of ps) low rises.0)
        | false ↦ λ apart. ap (λ vs. p.1 ∷ vs) (take_out-values_of n ps numbered.1 rises.1)
      ] refl)

  change_in-values_of : (v : V) (ps : List (ℕ × V)) → AreNumbered number ps → Rises number (values_of ps) → values_of (set_value (is_at (nat_cmp (number v))) ps v) ≡ change_in number (number v) (λ _. v) (values_of ps)
  change_in-values_of v [] numbered rises = refl
  change_in-values_of v (p ∷ ps) numbered rises =
      let n = number v in
      rw (same_test n p.0, numbered.0) (elim (p.0 == n) as (λ b. (p.0 == n) ≡ b → values_of (cond b ((p.0, v) ∷ ps) (p ∷ set_value (is_at (nat_cmp n)) ps v)) ≡ cond b v p.1 ∷ change_in number n (λ _. v) (values_of ps)) [
        | true ↦ λ same.
            let low : n ≤ number p.1 = omega (arith, numbered.0, eqb-true p.0 n same) in
            ap (λ vs. v ∷ vs) (sym (change_in-above number n (number p.1) (λ _. v) (values_of ps) low rises.0))
        | false ↦ λ apart. ap (λ vs. p.1 ∷ vs) (change_in-values_of v ps numbered.1 rises.1)
      ] refl)

  -- ---- each value stays under its own number

  AreNumbered-insert_entry : (v : V) (ps : List (ℕ × V)) → AreNumbered number ps → AreNumbered number (insert_entry nat_cmp ps (number v) v)
  AreNumbered-insert_entry v [] numbered = (refl, tt)
  AreNumbered-insert_entry v (p ∷ ps) numbered =
      elim (cases_order (number v) p.0) [
        | inl same ↦ rw (le-ltb (number v) p.0 (omega arith), eq-eqb (number v) p.0 same) (same, numbered.1)
        | inr apart ↦ elim apart [
          | inl below ↦ rw (lt-ltb (number v) p.0 below) (refl, numbered)
          | inr above ↦ rw (le-ltb (number v) p.0 (omega arith), ne_eqb (number v) p.0 (λ same. absurd (omega arith))) (numbered.0, AreNumbered-insert_entry v ps numbered.1)
        ]
      ]

  AreNumbered-remove_entry : (test : ℕ → Bool) (ps : List (ℕ × V)) → AreNumbered number ps → AreNumbered number (remove_entry test ps)
  AreNumbered-remove_entry test [] numbered = tt
  AreNumbered-remove_entry test (p ∷ ps) numbered =
      elim (test p.0) as (λ b. AreNumbered number (cond b ps (p ∷ remove_entry test ps))) [
        | true ↦ numbered.1
        | false ↦ (numbered.0, AreNumbered-remove_entry test ps numbered.1)
      ]

  AreNumbered-set_value : (v : V) (ps : List (ℕ × V)) → AreNumbered number ps → AreNumbered number (set_value (is_at (nat_cmp (number v))) ps v)
  AreNumbered-set_value v [] numbered = tt
  AreNumbered-set_value v (p ∷ ps) numbered =
      rw (same_test (number v) p.0) (elim (p.0 == number v) as (λ b. (p.0 == number v) ≡ b → AreNumbered number (cond b ((p.0, v) ∷ ps) (p ∷ set_value (is_at (nat_cmp (number v))) ps v))) [
        | true ↦ λ same. (sym (eqb-true p.0 (number v) same), numbered.1)
        | false ↦ λ apart. (numbered.0, AreNumbered-set_value v ps numbered.1)
      ] refl)

-- ---- a number that is written over and then back

pub lookup_above : (n m : ℕ) (es : List (ℕ × ℕ)) → n ≤ m → AllByRecursion (λ k. nat_cmp m k ≡ Less) (keys_of es) → lookup (is_at (nat_cmp n)) es ≡ None
lookup_above n m [] le above = refl
lookup_above n m (e ∷ es) le above =
    let less : m < e.0 = (let h = above.0 in grind (arith, nat_tests)) in
    rw (same_test n e.0, ne_eqb e.0 n (λ same. absurd (omega (arith, less, le, same)))) (lookup_above n m es le above.1)

pub written_back : (n slot other : ℕ) (es : List (ℕ × ℕ)) → IsStrictlySortedBy nat_cmp (keys_of es) → lookup (is_at (nat_cmp n)) es ≡ Some slot → insert_entry nat_cmp (insert_entry nat_cmp es n other) n slot ≡ es
written_back n slot other [] sorted is = absurd (cc)
written_back n slot other (e ∷ es) sorted is =
    elim (cases_order n e.0) [
      | inl same ↦
          let at : Some e.1 ≡ Some slot = rw (same_test n e.0, eq-eqb e.0 n (sym same)) at is in
          let its : slot ≡ e.1 = cc in
          let put : (s t : ℕ) → insert_entry nat_cmp ((e.0, t) ∷ es) n s ≡ (e.0, s) ∷ es = λ s t. rw (le-ltb n e.0 (omega arith), eq-eqb n e.0 same) refl in
          ap (λ zs. insert_entry nat_cmp zs n slot) (put other e.1) ∙ put slot other ∙ ap (λ s. (e.0, s) ∷ es) its
      | inr apart ↦ elim apart [
        | inl below ↦
            let later : lookup (is_at (nat_cmp n)) es ≡ Some slot = rw (same_test n e.0, ne_eqb e.0 n (λ same. absurd (omega arith))) at is in
            let none = lookup_above n e.0 es (omega arith) (sorted_head nat_cmp e.0 (keys_of es) sorted) in
            absurd (cc)
        | inr above ↦
            let later : lookup (is_at (nat_cmp n)) es ≡ Some slot = rw (same_test n e.0, ne_eqb e.0 n (λ same. absurd (omega arith))) at is in
            let past : (s : ℕ) (zs : List (ℕ × ℕ)) → insert_entry nat_cmp (e ∷ zs) n s ≡ e ∷ insert_entry nat_cmp zs n s = λ s zs. rw (le-ltb n e.0 (omega arith), ne_eqb n e.0 (λ same. absurd (omega arith))) refl in
            ap (λ zs. insert_entry nat_cmp zs n slot) (past other es) ∙ past slot (insert_entry nat_cmp es n other) ∙ (ap (λ zs. e ∷ zs) (written_back n slot other es (sorted_tail nat_cmp e.0 (keys_of es) sorted) later))
      ]
    ]

keys-resolved : {V : Type 0} (slots : List (Option V)) (es : List (ℕ × ℕ)) → IsLinked slots es → keys_of (resolved slots es) ≡ keys_of es
keys-resolved slots [] linked = refl
keys-resolved slots (e ∷ es) linked = rw (value_of _ linked.0).1 (ap (λ ks. e.0 ∷ ks) (keys-resolved slots es linked.2))

length-values_of : {V : Type 0} (ps : List (ℕ × V)) → length (values_of ps) ≡ length ps
length-values_of [] = refl
length-values_of (p ∷ ps) = omega (arith, length-values_of ps)

-- there are as many values as keys
pub length-values-keys : {V : Type 0} (ps : List (ℕ × V)) → length (values_of ps) ≡ length (keys_of ps)
length-values-keys [] = refl
length-values-keys (p ∷ ps) = omega (arith, length-values-keys ps)

-- ---- what a table's contracts say, from its fields

module _ {V : Type 0} (number : V → ℕ) (slots : List (Option V)) (es : List (ℕ × ℕ)) (table : IsTable number slots es) where
  sorted : IsStrictlySortedBy nat_cmp (map number (values_in slots es))
  sorted = rw (numbers-values_of number (resolved slots es) table.numbered, keys-resolved slots es table.linked) table.rises

  pub increasing : IsStrictlyIncreasing (map number (values_in slots es))
  increasing = IsStrictlyIncreasing-from_sorted _ sorted

  pub rising : Rises number (values_in slots es)
  rising = Rises-from_sorted number _ sorted

  pub len : length (values_in slots es) ≡ length es
  len = length-values_of (resolved slots es) ∙ length-resolved slots es table.linked

  -- the slot of a number
  pub found : (n slot : ℕ) → lookup (is_at (nat_cmp n)) es ≡ Some slot → slice_index_or slots slot None ≡ with_number number n (values_in slots es)
  found n slot is =
      lookup-resolved slots es (is_at (nat_cmp n)) slot table.linked is ∙ sym (with_number-values_of number n (resolved slots es) table.numbered)

  pub missing : (n : ℕ) → lookup (is_at (nat_cmp n)) es ≡ None → with_number number n (values_in slots es) ≡ None
  missing n is =
      with_number-values_of number n (resolved slots es) table.numbered ∙ lookup-resolved-none slots es (is_at (nat_cmp n)) table.linked is

  -- a number has a slot where it has a value
  pub same_presence : (n : ℕ) → is_some (lookup (is_at (nat_cmp n)) es) ≡ is_some (with_number number n (values_in slots es))
  same_presence n =
      elim (lookup (is_at (nat_cmp n)) es) as (λ o. lookup (is_at (nat_cmp n)) es ≡ o → is_some o ≡ is_some (with_number number n (values_in slots es))) [
        | None ↦ λ is. sym (ap is_some (missing n is))
        | Some slot ↦ λ is. let v = value_of _ (slot_is_used slots es (is_at (nat_cmp n)) slot table.linked is) in sym (ap is_some (sym (found n slot is) ∙ v.1))
      ] refl

  missing_entry : (n : ℕ) → with_number number n (values_in slots es) ≡ None → lookup (is_at (nat_cmp n)) es ≡ None
  missing_entry n none =
      elim (lookup (is_at (nat_cmp n)) es) as (λ o. lookup (is_at (nat_cmp n)) es ≡ o → o ≡ None) [
        | None ↦ λ is. refl
        | Some slot ↦ λ is. let v = value_of _ (slot_is_used slots es (is_at (nat_cmp n)) slot table.linked is) in let some : Some v.0 ≡ None = sym v.1 ∙ found n slot is ∙ none in absurd (cc)
      ] refl

  pub absent : (n : ℕ) → with_number number n (values_in slots es) ≡ None → lookup (is_at (nat_cmp n)) (resolved slots es) ≡ None
  absent n is = sym (with_number-values_of number n (resolved slots es) table.numbered) ∙ is

-- ---- what a change leaves

module _ {V : Type 0} (number : V → ℕ) where
  pub inserted_in : (old mid new : Slab V) (es es' : List (ℕ × ℕ)) (k slot key : ℕ) (v : V) → k ≡ number v → mid ≡ record old { capacity = mid.capacity } → slot ≡ mid.vacant_key → get mid slot ≡ None → key ≡ mid.vacant_key → Updates mid new key (Some v) → es' ≡ insert_entry nat_cmp es k slot → IsStrictlySortedBy nat_cmp (keys_of es') → IsTable number old.slots es → with_number number (number v) (values_in old.slots es) ≡ None → (values_in new.slots es' ≡ put_in number v (values_in old.slots es)) × IsTable number new.slots es'
  inserted_in old mid new es es' k slot key v its kept is vacant same updates put sorted table none =
      let put' : es' ≡ insert_entry nat_cmp es (number v) slot = put ∙ ap (λ n. insert_entry nat_cmp es n slot) its in
      let both = inserted old mid new es es' (number v) slot key v kept is vacant same updates put' table.linked in
      let at : key ≡ slot = same ∙ sym is in
      let others : (other : ℕ) → other ≢ slot → get new other ≡ get old other = rw (← at, ← ap (λ s. s.slots) kept) updates.others in
      let fresh = missing_entry number old.slots es table (number v) none in (
        ap values_of both.0 ∙ put_in-values_of number v (resolved old.slots es) table.numbered (rising number old.slots es table) (absent number old.slots es table (number v) none),
        record { rises = sorted; linked = both.1; numbered = rw both.0 (AreNumbered-insert_entry number v (resolved old.slots es) table.numbered); housed = rw put' (AreHoused-insert number old.slots new.slots slot others es table.housed v (rw (← at) updates.changed) fresh) },
      )

  pub written_in : (s : Slab V) (es : List (ℕ × ℕ)) (k slot : ℕ) (v : V) → k ≡ number v → IsTable number s.slots es → lookup (is_at (nat_cmp k)) es ≡ Some slot → (values_in (slice_set s.slots slot (Some v)) es ≡ change_in number (number v) (λ _. v) (values_in s.slots es)) × IsTable number (slice_set s.slots slot (Some v)) es
  written_in s es k slot v its table is =
      let is' : lookup (is_at (nat_cmp (number v))) es ≡ Some slot = ap (λ n. lookup (is_at (nat_cmp n)) es) (sym its) ∙ is in
      let both = written s es (is_at (nat_cmp (number v))) slot v table.linked is' in
      let updates = Updates-set s (record s { slots = slice_set s.slots slot (Some v) }) slot (Some v) (ContainsKey-within s slot (slot_is_used s.slots es (is_at (nat_cmp (number v))) slot table.linked is')) refl in (
        ap values_of both.0 ∙ change_in-values_of number v (resolved s.slots es) table.numbered (rising number s.slots es table),
        record { rises = table.rises; linked = both.1; numbered = rw both.0 (AreNumbered-set_value number v (resolved s.slots es) table.numbered); housed = AreHoused-set number s.slots (slice_set s.slots slot (Some v)) slot updates.others es table.housed v updates.changed is' },
      )

  pub removed_in : (old new : Slab V) (es es' : List (ℕ × ℕ)) (n slot : ℕ) → Updates old new slot None → es' ≡ remove_entry (is_at (nat_cmp n)) es → IsStrictlySortedBy nat_cmp (keys_of es') → IsTable number old.slots es → lookup (is_at (nat_cmp n)) es ≡ Some slot → (values_in new.slots es' ≡ take_out number n (values_in old.slots es)) × IsTable number new.slots es'
  removed_in old new es es' n slot updates taken sorted table is =
      let both = removed old new es es' (is_at (nat_cmp n)) slot updates taken table.linked is in (
        ap values_of both.0 ∙ take_out-values_of number n (resolved old.slots es) table.numbered (rising number old.slots es table),
        record { rises = sorted; linked = both.1; numbered = rw both.0 (AreNumbered-remove_entry number (is_at (nat_cmp n)) (resolved old.slots es) table.numbered); housed = rw taken (AreHoused-remove number old.slots new.slots slot updates.others es table.housed n updates.changed is) },
      )

  -- without an entry of the number, nothing is taken out
  pub take_out-missing : (slots : List (Option V)) (es : List (ℕ × ℕ)) (n : ℕ) → IsTable number slots es → lookup (is_at (nat_cmp n)) es ≡ None → take_out number n (values_in slots es) ≡ values_in slots es
  take_out-missing slots es n table is =
      let none : lookup (is_at (nat_cmp n)) (resolved slots es) ≡ None = lookup-resolved-none slots es (is_at (nat_cmp n)) table.linked is in
      sym (take_out-values_of number n (resolved slots es) table.numbered (rising number slots es table))
      ∙ ap values_of (remove_absent (is_at (nat_cmp n)) (resolved slots es) none)
