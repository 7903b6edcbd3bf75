-- Lemmas on numbers that are linked to the slots of a slab.
use Rattle.std.proofs.Common.{◌≡◌, ◌≢◌, ℕ, Bool, true, false, cond, List, [], ◌∷◌, length, Option, Some, None, IsSome, slice_index_or, slice_set, refl, sym, ap, ◌∙◌, inl, inr, arith}
use Rattle.std.proofs.lemmas.Bool.{cases_eq}
use Rattle.std.specs.declared.cmp.Ordering.{Ordering}
use Rattle.std.specs.declared.cmp.Ordering.TheVariants.{Less, Equal, Greater}
use Rattle.std.specs.Ordering.{match_ordering}
use Rattle.std.specs.BTreeMap.{insert_entry}
use Rattle.std.specs.Map.{lookup, set_value, remove_entry}
use Rattle.std.specs.Ordering.{nat_cmp}
use Rattle.slab.specs.Slab.{Slab, get, Updates}
use Rattle.slab.proofs.SlabLemmas.{Updates-set, ContainsKey-within}
use Rattle.pesp_instance.specs.Table.{resolved, IsFree, IsLinked}
use Rattle.pesp_base.proofs.Tests.{value_of}

-- a number's slot is not one that no number has
slot_differs : (es : List (ℕ × ℕ)) (test : ℕ → Bool) (slot free : ℕ) → IsFree free es → lookup test es ≡ Some slot → slot ≢ free
slot_differs [] test slot free apart is = absurd (cc)
slot_differs (e ∷ es) test slot free apart is =
    elim (test e.0) as (λ b. cond b (Some e.1) (lookup test es) ≡ Some slot → slot ≢ free) [
      | true ↦ λ same at. apart.0 (cc)
      | false ↦ λ later. slot_differs es test slot free apart.1 later
    ] is

IsFree-insert : (cmp : ℕ → ℕ → Ordering) (es : List (ℕ × ℕ)) (number slot free : ℕ) → slot ≢ free → IsFree free es → IsFree free (insert_entry cmp es number slot)
IsFree-insert cmp [] number slot free differs apart = (differs, tt)
IsFree-insert cmp (e ∷ es) number slot free differs apart =
    elim (cmp number e.0) as (λ r. IsFree free (match_ordering r ((number, slot) ∷ e ∷ es) ((e.0, slot) ∷ es) (e ∷ insert_entry cmp es number slot))) [
      | Less ↦ (differs, apart)
      | Equal ↦ (differs, apart.1)
      | Greater ↦ (apart.0, IsFree-insert cmp es number slot free differs apart.1)
    ]

IsFree-remove : (test : ℕ → Bool) (es : List (ℕ × ℕ)) (free : ℕ) → IsFree free es → IsFree free (remove_entry test es)
IsFree-remove test [] free apart = tt
IsFree-remove test (e ∷ es) free apart =
    elim (test e.0) as (λ b. IsFree free (cond b es (e ∷ remove_entry test es))) [
      | true ↦ apart.1
      | false ↦ (apart.0, IsFree-remove test es free apart.1)
    ]

module _ {V : Type 0} where
  pub length-resolved : (slots : List (Option V)) (es : List (ℕ × ℕ)) → IsLinked slots es → length (resolved slots es) ≡ length es
  length-resolved slots [] linked = refl
  length-resolved slots (e ∷ es) linked = rw (value_of _ linked.0).1 (omega (arith, length-resolved slots es linked.2))

  pub lookup-resolved : (slots : List (Option V)) (es : List (ℕ × ℕ)) (test : ℕ → Bool) (slot : ℕ) → IsLinked slots es → lookup test es ≡ Some slot → slice_index_or slots slot None ≡ lookup test (resolved slots es)
  lookup-resolved slots [] test slot linked is = absurd (cc)
  lookup-resolved slots (e ∷ es) test slot linked is =
      let v = value_of (slice_index_or slots e.1 None) linked.0 in
      rw v.1 (elim (test e.0) as (λ b. cond b (Some e.1) (lookup test es) ≡ Some slot → slice_index_or slots slot None ≡ cond b (Some v.0) (lookup test (resolved slots es))) [
        | true ↦ λ same. let eq : slot ≡ e.1 = cc in rw eq v.1
        | false ↦ λ later. lookup-resolved slots es test slot linked.2 later
      ] is)

  pub lookup-resolved-none : (slots : List (Option V)) (es : List (ℕ × ℕ)) (test : ℕ → Bool) → IsLinked slots es → lookup test es ≡ None → lookup test (resolved slots es) ≡ None
  lookup-resolved-none slots [] test linked is = refl
  lookup-resolved-none slots (e ∷ es) test linked is =
      let v = value_of (slice_index_or slots e.1 None) linked.0 in
      rw v.1 (elim (test e.0) as (λ b. cond b (Some e.1) (lookup test es) ≡ None → cond b (Some v.0) (lookup test (resolved slots es)) ≡ None) [
        | true ↦ λ same. absurd (cc)
        | false ↦ λ later. lookup-resolved-none slots es test linked.2 later
      ] is)

  -- the slot of a number has a value
  pub slot_is_used : (slots : List (Option V)) (es : List (ℕ × ℕ)) (test : ℕ → Bool) (slot : ℕ) → IsLinked slots es → lookup test es ≡ Some slot → IsSome (slice_index_or slots slot None)
  slot_is_used slots [] test slot linked is = absurd (cc)
  slot_is_used slots (e ∷ es) test slot linked is =
      elim (test e.0) as (λ b. cond b (Some e.1) (lookup test es) ≡ Some slot → IsSome (slice_index_or slots slot None)) [
        | true ↦ λ same. let eq : slot ≡ e.1 = cc in rw eq linked.0
        | false ↦ λ later. slot_is_used slots es test slot linked.2 later
      ] is

  -- a slot with no value is the slot of no number
  pub vacant_is_free : (slots : List (Option V)) (es : List (ℕ × ℕ)) (free : ℕ) → IsLinked slots es → slice_index_or slots free None ≡ None → IsFree free es
  vacant_is_free slots [] free linked vacant = tt
  vacant_is_free slots (e ∷ es) free linked vacant = (
    λ same. let v = value_of (slice_index_or slots e.1 None) linked.0 in absurd (cc),
    vacant_is_free slots es free linked.2 vacant,
  )

  module _ (old new : List (Option V)) (slot : ℕ) (others : (other : ℕ) → other ≢ slot → slice_index_or new other None ≡ slice_index_or old other None) where
    -- a change of a free slot changes no number's value
    resolved_kept : (es : List (ℕ × ℕ)) → IsFree slot es → resolved new es ≡ resolved old es
    resolved_kept [] apart = refl
    resolved_kept (e ∷ es) apart = rw (others e.1 apart.0, resolved_kept es apart.1) refl

    linked_kept : (es : List (ℕ × ℕ)) → IsFree slot es → IsLinked old es → IsLinked new es
    linked_kept [] apart linked = tt
    linked_kept (e ∷ es) apart linked = (rw (others e.1 apart.0) linked.0, linked.1, linked_kept es apart.1 linked.2)

    module _ (cmp : ℕ → ℕ → Ordering) (number : ℕ) (value : V) (changed : slice_index_or new slot None ≡ Some value) where
      pub resolved-insert : (es : List (ℕ × ℕ)) → IsFree slot es → IsLinked old es → resolved new (insert_entry cmp es number slot) ≡ insert_entry cmp (resolved old es) number value
      resolved-insert [] apart linked = rw changed refl
      resolved-insert (e ∷ es) apart linked =
          let v = value_of (slice_index_or old e.1 None) linked.0 in
          let w : slice_index_or new e.1 None ≡ Some v.0 = others e.1 apart.0 ∙ v.1 in
          let kept = resolved_kept es apart.1 in
          rw v.1 (elim (cmp number e.0) as (λ r. resolved new (match_ordering r ((number, slot) ∷ e ∷ es) ((e.0, slot) ∷ es) (e ∷ insert_entry cmp es number slot)) ≡ match_ordering r ((number, value) ∷ (e.0, v.0) ∷ resolved old es) ((e.0, value) ∷ resolved old es) ((e.0, v.0) ∷ insert_entry cmp (resolved old es) number value)) [
            | Less ↦ rw (changed, w, kept) refl
            | Equal ↦ rw (changed, kept) refl
            | Greater ↦ rw (w, resolved-insert es apart.1 linked.2) refl
          ])

      pub IsLinked-insert : (es : List (ℕ × ℕ)) → IsFree slot es → IsLinked old es → IsLinked new (insert_entry cmp es number slot)
      IsLinked-insert [] apart linked = (rw changed refl, tt, tt)
      IsLinked-insert (e ∷ es) apart linked =
          let kept = linked_kept (e ∷ es) apart linked in
          elim (cmp number e.0) as (λ r. IsLinked new (match_ordering r ((number, slot) ∷ e ∷ es) ((e.0, slot) ∷ es) (e ∷ insert_entry cmp es number slot))) [
            | Less ↦ (rw changed refl, apart, kept)
            | Equal ↦ (rw changed refl, apart.1, kept.2)
            | Greater ↦ (kept.0, IsFree-insert cmp es number slot e.1 (λ same. apart.0 (sym same)) linked.1, IsLinked-insert es apart.1 linked.2)
          ]

    module _ (test : ℕ → Bool) where
      pub resolved-set : (value : V) → slice_index_or new slot None ≡ Some value → (es : List (ℕ × ℕ)) → IsLinked old es → lookup test es ≡ Some slot → resolved new es ≡ set_value test (resolved old es) value
      resolved-set value changed [] linked is = refl
      resolved-set value changed (e ∷ es) linked is =
          let v = value_of (slice_index_or old e.1 None) linked.0 in
          rw v.1 (elim (test e.0) as (λ b. cond b (Some e.1) (lookup test es) ≡ Some slot → resolved new (e ∷ es) ≡ cond b ((e.0, value) ∷ resolved old es) ((e.0, v.0) ∷ set_value test (resolved old es) value)) [
            | true ↦ λ same. let eq : e.1 ≡ slot = cc in let w : slice_index_or new e.1 None ≡ Some value = ap (λ i. slice_index_or new i None) eq ∙ changed in rw (w, resolved_kept es (rw eq at linked.1)) refl
            | false ↦ λ later. let w : slice_index_or new e.1 None ≡ Some v.0 = others e.1 (λ same. slot_differs es test slot e.1 linked.1 later (sym same)) ∙ v.1 in rw (w, resolved-set value changed es linked.2 later) refl
          ] is)

      pub IsLinked-set : (value : V) → slice_index_or new slot None ≡ Some value → (es : List (ℕ × ℕ)) → IsLinked old es → IsLinked new es
      IsLinked-set value changed [] linked = tt
      IsLinked-set value changed (e ∷ es) linked = (
        elim (cases_eq e.1 slot) [
          | inl same ↦ rw (same, changed) refl
          | inr differs ↦ rw (others e.1 differs) linked.0
        ],
        linked.1,
        IsLinked-set value changed es linked.2,
      )

      pub resolved-remove : (es : List (ℕ × ℕ)) → IsLinked old es → lookup test es ≡ Some slot → resolved new (remove_entry test es) ≡ remove_entry test (resolved old es)
      resolved-remove [] linked is = refl
      resolved-remove (e ∷ es) linked is =
          let v = value_of (slice_index_or old e.1 None) linked.0 in
          rw v.1 (elim (test e.0) as (λ b. cond b (Some e.1) (lookup test es) ≡ Some slot → resolved new (cond b es (e ∷ remove_entry test es)) ≡ cond b (resolved old es) ((e.0, v.0) ∷ remove_entry test (resolved old es))) [
            | true ↦ λ same. let eq : e.1 ≡ slot = cc in resolved_kept es (rw eq at linked.1)
            | false ↦ λ later. let w : slice_index_or new e.1 None ≡ Some v.0 = others e.1 (λ same. slot_differs es test slot e.1 linked.1 later (sym same)) ∙ v.1 in rw (w, resolved-remove es linked.2 later) refl
          ] is)

      pub IsLinked-remove : (es : List (ℕ × ℕ)) → IsLinked old es → lookup test es ≡ Some slot → IsLinked new (remove_entry test es)
      IsLinked-remove [] linked is = tt
      IsLinked-remove (e ∷ es) linked is =
          elim (test e.0) as (λ b. cond b (Some e.1) (lookup test es) ≡ Some slot → IsLinked new (cond b es (e ∷ remove_entry test es))) [
            | true ↦ λ same. let eq : e.1 ≡ slot = cc in linked_kept es (rw eq at linked.1) linked.2
            | false ↦ λ later. (rw (others e.1 (λ same. slot_differs es test slot e.1 linked.1 later (sym same))) linked.0, IsFree-remove test es e.1 linked.1, IsLinked-remove es linked.2 later)
          ] is

  -- what an insert of a new number leaves
  pub inserted : (old mid new : Slab V) (numbers numbers' : List (ℕ × ℕ)) (number slot key : ℕ) (value : V) → mid ≡ record old { capacity = mid.capacity } → slot ≡ mid.vacant_key → get mid slot ≡ None → key ≡ mid.vacant_key → Updates mid new key (Some value) → numbers' ≡ insert_entry nat_cmp numbers number slot → IsLinked old.slots numbers → (resolved new.slots numbers' ≡ insert_entry nat_cmp (resolved old.slots numbers) number value) × IsLinked new.slots numbers'
  inserted old mid new numbers numbers' number slot key value kept is vacant same updates put linked =
      let slots : mid.slots ≡ old.slots = ap (λ s. s.slots) kept in
      let at : key ≡ slot = same ∙ sym is in
      let was : IsLinked mid.slots numbers = rw slots linked in
      let free = vacant_is_free mid.slots numbers slot was vacant in
      let others : (other : ℕ) → other ≢ slot → get new other ≡ get mid other = rw (← at) updates.others in
      let changed : get new slot ≡ Some value = rw (← at) updates.changed in (
        rw (put, ← slots) (resolved-insert mid.slots new.slots slot others nat_cmp number value changed numbers free was),
        rw put (IsLinked-insert mid.slots new.slots slot others nat_cmp number value changed numbers free was),
      )

  -- what a write of a number's slot leaves
  pub written : (s : Slab V) (numbers : List (ℕ × ℕ)) (test : ℕ → Bool) (slot : ℕ) (value : V) → IsLinked s.slots numbers → lookup test numbers ≡ Some slot → (resolved (slice_set s.slots slot (Some value)) numbers ≡ set_value test (resolved s.slots numbers) value) × IsLinked (slice_set s.slots slot (Some value)) numbers
  written s numbers test slot value linked is =
      let after = record s { slots = slice_set s.slots slot (Some value) } in
      let updates = Updates-set s after slot (Some value) (ContainsKey-within s slot (slot_is_used s.slots numbers test slot linked is)) refl in (
        resolved-set s.slots after.slots slot updates.others test value updates.changed numbers linked is,
        IsLinked-set s.slots after.slots slot updates.others test value updates.changed numbers linked,
      )

  -- what the removal of a number leaves
  pub removed : (old new : Slab V) (numbers numbers' : List (ℕ × ℕ)) (test : ℕ → Bool) (slot : ℕ) → Updates old new slot None → numbers' ≡ remove_entry test numbers → IsLinked old.slots numbers → lookup test numbers ≡ Some slot → (resolved new.slots numbers' ≡ remove_entry test (resolved old.slots numbers)) × IsLinked new.slots numbers'
  removed old new numbers numbers' test slot updates taken linked is = (
    rw taken (resolved-remove old.slots new.slots slot updates.others test numbers linked is),
    rw taken (IsLinked-remove old.slots new.slots slot updates.others test numbers linked is),
  )

pub remove_absent : {V : Type 0} (test : ℕ → Bool) (es : List (ℕ × V)) → lookup test es ≡ None → remove_entry test es ≡ es
remove_absent test [] is = refl
remove_absent test (e ∷ es) is =
    elim (test e.0) as (λ b. cond b (Some e.1) (lookup test es) ≡ None → cond b es (e ∷ remove_entry test es) ≡ e ∷ es) [
      | true ↦ λ same. absurd (cc)
      | false ↦ λ later. rw (remove_absent test es later) refl
    ] is
