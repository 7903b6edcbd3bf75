-- Fixed times of events of an instance.
use Rattle.std.proofs.Common.{◌≡◌, ℕ, ◌<◌, Bool, true, false, not, nat_le, List, [], ◌∷◌, ◌++◌, Option, Some, None, Result, Ok, Err, IsOk, IfErr, option_map, is_some, inl, inr, refl, sym, ap, subst, ◌∙◌}
use Rattle.std.proofs.lemmas.Bool.{lt-leb}
use Rattle.std.specs.Ordering.{nat_cmp, match_ordering}
use Rattle.std.specs.declared.cmp.Ordering.{Ordering}
use Rattle.std.specs.declared.cmp.Ordering.TheVariants.{Less, Equal, Greater}
use Rattle.std.specs.BTreeMap.{insert_entry}
use Rattle.pesp_base.specs.declared.refusal.Refusal.{Refusal}
use Rattle.pesp_base.specs.declared.refusal.Refusal.TheVariants as no
use Rattle.pesp_base.specs.Refusals.{unless_refused, when}
use Rattle.pesp_base.specs.Tensions.{residue}
use Rattle.pesp_base.proofs.Laws.{residue_below}
use Rattle.pesp_base.specs.Windows.{at_time}
use Rattle.pesp_instance.specs.declared.edit.Edit.TheVariants.{Fix}
use Rattle.pesp_instance.specs.declared.event.Event.{Event}
use Rattle.pesp_instance.specs.Edited.{IsRefusal, edited, effect}
use Rattle.pesp_instance.specs.Network.{Network, event_of, has_event}
use Rattle.pesp_instance.proofs.Rising.{with_number-change_in}
use Rattle.pesp_tension.specs.Timetables.{Times, no_times, time_of}
use Rattle.pesplib_reader.specs.declared.fault.FaultKind.{FaultKind}
use Rattle.pesplib_reader.specs.declared.fault.FaultKind.TheVariants as fault
use Rattle.pesplib_reader.specs.Records.{Row, rows_of}
use Rattle.pesplib_reader.specs.Rows.{field, natural, time_faults, value}
use Rattle.pesplib_reader.specs.Reading.{AreFixable, fixed_faults_after, fixed_read, with_time_row}
use Rattle.pesplib_reader.specs.Taking.{at_place, on_ok, row_taken, taken}

-- ---- what a file of fixed times stands for may be fixed

module _ (I : Network) where
  placed : (o : Ordering) (e t : ℕ) (x : ℕ × ℕ) (entries rest : List (ℕ × ℕ)) → has_event I e ≡ true → t < I.period → AreFixable I (x ∷ entries) → AreFixable I rest
      → AreFixable I (match_ordering o ((e, t) ∷ x ∷ entries) ((x.0, t) ∷ entries) (x ∷ rest))
  placed Less e t x entries rest known below all later = (known, below, all)
  placed Equal e t x entries rest known below all later = (all.0, below, all.2)
  placed Greater e t x entries rest known below all later = (all.0, all.1, later)

  AreFixable-insert_entry : (entries : List (ℕ × ℕ)) (e t : ℕ) → has_event I e ≡ true → t < I.period → AreFixable I entries → AreFixable I (insert_entry nat_cmp entries e t)
  AreFixable-insert_entry [] e t known below all = (known, below, tt)
  AreFixable-insert_entry (x ∷ entries) e t known below all =
      placed (nat_cmp e x.0) e t x entries (insert_entry nat_cmp entries e t) known below all (AreFixable-insert_entry entries e t known below all.2)

  -- fixed times of events of the instance, in its period
  record IsFixable (m : Times) : Type 0 where
    all : AreFixable I m.entries
    same : m.period ≡ I.period

  last_known : {X : Type 0} (own : List (Option FaultKind)) (p q : Bool) (x y : X) → unless_refused (own ++ when p fault.DuplicateEvent ∷ when (not q) fault.NoEvent ∷ []) x ≡ Ok y → (q ≡ true) × (x ≡ y)
  last_known [] true q x y h = absurd (cc)
  last_known [] false true x y h = (refl, cc)
  last_known [] false false x y h = absurd (cc)
  last_known (None ∷ own) p q x y h = last_known own p q x y h
  last_known (Some kind ∷ own) p q x y h = absurd (cc)

  fixable_more : (some : 0 < I.period) (m y : Times) (fields : List (List ℕ)) → row_taken (fixed_faults_after I) with_time_row m fields ≡ Ok y → IsFixable m → IsFixable y
  fixable_more some m y fields h fixable =
      let facts = last_known (time_faults fields) (is_some (time_of m (natural (field fields 1)))) (has_event I (natural (field fields 1))) (with_time_row m fields) y h in
      let below : residue m.period (value (field fields 2)) < I.period =
      subst (λ p. residue p (value (field fields 2)) < I.period) (sym fixable.same) (residue_below I.period (value (field fields 2)) some) in
      subst IsFixable facts.1 (record {
        all = AreFixable-insert_entry m.entries (natural (field fields 1)) (residue m.period (value (field fields 2))) facts.0 below fixable.all;
        same = fixable.same;
      })

  fixable_taken : (some : 0 < I.period) (rows : List Row) (m y : Times) → taken (fixed_faults_after I) with_time_row m rows ≡ Ok y → IsFixable m → IsFixable y
  fixable_taken some [] m y h fixable = let same : m ≡ y = cc in subst IsFixable same fixable
  fixable_taken some (r ∷ rows) m y h fixable =
      elim (row_taken (fixed_faults_after I) with_time_row m r.fields) as (λ o. row_taken (fixed_faults_after I) with_time_row m r.fields ≡ o → on_ok (λ z. taken (fixed_faults_after I) with_time_row z rows) (at_place r.place o) ≡ Ok y → IsFixable y) [
        | Ok z ↦ λ e later. fixable_taken some rows z y later (fixable_more some m z r.fields e fixable)
        | Err kind ↦ λ e later. absurd (cc)
      ] refl h

  pub read_fixable : (bytes : List ℕ) (m : Times) → 0 < I.period → fixed_read I bytes ≡ Ok m → AreFixable I m.entries
  read_fixable bytes m some h = (fixable_taken some (rows_of bytes) (no_times I.period) m h (record { all = tt; same = refl })).all

-- ---- a time that is fixed

abbrev pub with_fix : Network → ℕ × ℕ → Network
with_fix J x = effect J (Fix x.0 x.1)

module _ (J : Network) (e t : ℕ) (known : has_event J e ≡ true) (below : t < J.period) where
  fix_stands : {X : Type 0} (x : X) → unless_refused (when (not (has_event J e)) (no.NoEvent e) ∷ when (nat_le J.period t) (no.TimeOutOfRange t) ∷ []) x ≡ Ok x
  fix_stands x = fix_as (has_event J e) (nat_le J.period t) known (lt-leb J.period t below)
    where
      fix_as : (p q : Bool) → p ≡ true → q ≡ false → unless_refused (when (not p) (no.NoEvent e) ∷ when q (no.TimeOutOfRange t) ∷ []) x ≡ Ok x
      fix_as p q f g = rw (f, g) refl

  pub fix_edited : edited J (Fix e t) ≡ Ok (with_fix J (e, t))
  fix_edited = fix_stands (with_fix J (e, t))

  not_refused : (r : Refusal) → IsRefusal J (Fix e t) r → ⊥
  not_refused r (inl h) = two_answers (sym fix_edited ∙ h)
    where
      two_answers : Ok (with_fix J (e, t)) ≡ Err r → ⊥
      two_answers h = cc
  not_refused r (inr h) = absurd (cc h.1)

  -- a time that may be fixed is not refused
  pub fix_is_ok : (r : Result (Unit {0}) Refusal) → IfErr r (IsRefusal J (Fix e t)) → IsOk r
  fix_is_ok (Ok x) h = refl
  fix_is_ok (Err r) h = absurd (not_refused r h)

  pub fix_gives : (K : Network) → edited J (Fix e t) ≡ Ok K → K ≡ with_fix J (e, t)
  fix_gives K h = let both : Ok K ≡ Ok (with_fix J (e, t)) = sym h ∙ fix_edited in cc

  still_there : (f : ℕ) → has_event (with_fix J (e, t)) f ≡ has_event J f
  still_there f =
      ap is_some (with_number-change_in (λ (x : Event). x.id) f e (λ (x : Event). record x { window = Some (at_time t) }) (λ x. refl) J.events)
      ∙ mapped _ (event_of J f)
    where
      mapped : (g : Event → Event) (o : Option Event) → is_some (option_map g o) ≡ is_some o
      mapped g None = refl
      mapped g (Some x) = refl

  pub still_fixable : (entries : List (ℕ × ℕ)) → AreFixable J entries → AreFixable (with_fix J (e, t)) entries
  still_fixable [] all = tt
  still_fixable (x ∷ entries) all = (still_there x.0 ∙ all.0, all.1, still_fixable entries all.2)
