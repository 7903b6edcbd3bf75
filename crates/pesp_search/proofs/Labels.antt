-- Labels of events that are the same at both ends of each activity tell the least events of parts.
use Rattle.std.proofs.Common.{◌≡◌, ℕ, ◌==◌, ◌+◌, ◌<◌, ◌≤◌, Bool, true, false, zero, suc, IsTrue, List, ◌++◌, length, take, drop, get_or, replicate, Option, None, Some, is_some, Result, Ok, Err, IfOk, Vec, Global, refl, sym, ◌∙◌, ap, subst, inl, inr, arith}
use Rattle.std.specs.List.{All}
use Rattle.std.proofs.Math.Seq.{take-append_seam}
use Rattle.std.proofs.lemmas.Bool.{cases_eq, cases_lt, eq-eqb, eqb-true, false≢true, ne_eqb}
use Rattle.std.proofs.lemmas.List.{get_or_past}
use Rattle.std.proofs.lemmas.List.Elements.{All-contains}
use Rattle.pesp_base.specs.Windows.{Interval}
use Rattle.pesp_instance.specs.Network.{IsNetwork, Network, event_ids, window_of}
use Rattle.pesp_search.specs.Parts.{AreAgreed, AreLeast, IsFirst, IsLeast}
use Rattle.pesp_search.specs.Paths.{at}
use Rattle.pesp_search.proofs.Events.{index_of}
use Rattle.pesp_search.proofs.Timed.{at_index}

-- the event at the index is the least of its label, and no event of that label has a window
pub least_of_labels : (I : Network) (labels : List ℕ) (k : ℕ) → IsNetwork I → length labels ≡ length (event_ids I) → k < length (event_ids I)
    → All (λ a. at I labels a.from ≡ at I labels a.to) I.activities
    → ((j : ℕ) → j < length (event_ids I) → get_or labels j 0 ≡ get_or labels k 0 → window_of I (get_or (event_ids I) j 0) ≡ None)
    → ((j : ℕ) → j < k → get_or labels j 0 ≡ get_or labels k 0 → ⊥)
    → IsLeast I k
least_of_labels I labels k ok long room agree free first =
    record {
      part = part;
      is_free =
          record {
            closed = λ a is. ap (λ l. l == own) (All-contains (λ b. at I labels b.from ≡ at I labels b.to) I.activities a agree is);
            free = λ e event inside.
                let w = index_of I e event in
                let here : w.0 < length labels = omega (arith, w.1, long) in
                let same : get_or labels w.0 0 ≡ own = sym (at_index I labels w.0 ok w.1 here) ∙ ap (at I labels) w.2 ∙ eqb-true (at I labels e) own inside in
                subst (λ f. window_of I f ≡ None) w.2 (free w.0 w.1 same);
          };
      inside = eq-eqb _ _ (at_index I labels k ok room (omega (arith, room, long)));
      none_before = λ j before. ne_eqb _ _ (λ same.
          let within : j < length (event_ids I) = omega (arith, before, room) in
          first j before (sym (at_index I labels j ok within (omega (arith, within, long))) ∙ same));
    }
  where
    own : ℕ
    own = get_or labels k 0

    part : ℕ → Bool
    part e = at I labels e == own

-- the label of an event is the one at its index
pub label_at : (I : Network) (labels events : List ℕ) (k e : ℕ) → IsNetwork I → events ≡ event_ids I → length labels ≡ length events → k < length events → get_or events k 0 ≡ e → at I labels e ≡ get_or labels k 0
label_at I labels events k e ok is long room here =
    let same : length events ≡ length (event_ids I) = ap length is in
    subst (λ f. at I labels f ≡ get_or labels k 0) (ap (λ ids. get_or ids k 0) (sym is) ∙ here) (at_index I labels k ok (omega (arith, room, same)) (omega (arith, room, long)))

-- ---- marks

-- marks that are written back whole are all there are
pub written_back : (n : ℕ) (new old : List Bool) → n ≡ length new → take n (new ++ drop (length new) old) ≡ new
written_back n new old is = ap (λ m. take m (new ++ drop (length new) old)) is ∙ take-append_seam new (drop (length new) old)

-- what is marked at first is marked everywhere
pub marked_all : (b : Bool) (n k : ℕ) → IsTrue (get_or (replicate n b) k false) → b ≡ true
marked_all b zero k is = absurd (false≢true is)
marked_all b (suc n) zero is = is
marked_all b (suc n) (suc k) is = marked_all b n k is

-- of no indices all is true
pub first_none : (I : Network) (labels : List ℕ) (k : ℕ) → IsFirst I labels 0 k
first_none I labels k = record { own = λ l. absurd (omega (arith, l)); others = λ i l. absurd (omega (arith, l)) }

-- one index more
pub first_more : (I : Network) (labels : List ℕ) (indices k : ℕ) → IsFirst I labels indices k → (k ≡ indices → get_or labels indices 0 ≡ indices)
    → (get_or labels indices 0 ≡ k → (k ≤ indices) × (window_of I (get_or (event_ids I) indices 0) ≡ None)) → IsFirst I labels (indices + 1) k
first_more I labels indices k first own label =
    record {
      own = λ l.
          elim (cases_eq k indices) [
            | inl same ↦ subst (λ j. get_or labels j 0 ≡ j) (sym same) (own same)
            | inr apart ↦ first.own (omega (arith, l, apart))
          ];
      others = λ i l is.
          elim (cases_eq i indices) [
            | inl same ↦ let w = label (ap (λ j. get_or labels j 0) (sym same) ∙ is) in (
              let low = w.0 in omega (arith, low, same),
              subst (λ j. window_of I (get_or (event_ids I) j 0) ≡ None) (sym same) w.1,
            )
            | inr apart ↦ first.others i (omega (arith, l, apart)) is
          ];
    }

-- a window that is not there
pub none_there : (o : Option Interval) → is_some o ≡ false → o ≡ None
none_there None is = refl
none_there (Some w) is = absurd (false≢true (sym is))

-- marks by agreed labels are those of least events
least_by_marks : (I : Network) (labels : List ℕ) (marks : List Bool) → IsNetwork I → length labels ≡ length (event_ids I) → length marks ≡ length (event_ids I)
    → ((k : ℕ) → IsTrue (get_or marks k false) → AreAgreed I labels × IsFirst I labels (length (event_ids I)) k) → AreLeast I marks
least_by_marks I labels marks ok long all first k marked =
    elim (cases_lt k (length (event_ids I))) [
      | inl room ↦
          let is = first k marked in
          let own : get_or labels k 0 ≡ k = is.1.own room in
          least_of_labels I labels k ok long room is.0
          (λ j l same. (is.1.others j l (same ∙ own)).1)
          (λ j before same. let w = (is.1.others j (omega (arith, before, room)) (same ∙ own)).0 in omega (arith, w, before))
      | inr past ↦ absurd (false≢true (sym (get_or_past marks k false (omega (arith, past, all))) ∙ marked))
    ]

-- where there is room for them
pub told_by_marks : {E : Type 0} (I : Network) (labels : List ℕ) (agreed : Bool) (r : Result (Vec Bool Global) E) → IsNetwork I → length labels ≡ length (event_ids I) → (agreed ≡ true → AreAgreed I labels)
    → IfOk r (λ marks. length marks.items ≡ length (event_ids I))
    → IfOk r (λ marks. (k : ℕ) → IsTrue (get_or marks.items k false) → (agreed ≡ true) × IsFirst I labels (length (event_ids I)) k)
    → IfOk r (λ marks. AreLeast I marks.items)
told_by_marks I labels agreed (Ok marks) ok long agree all first = least_by_marks I labels marks.items ok long all (λ k marked. let w = first k marked in (agree w.0, w.1))
told_by_marks I labels agreed (Err e) ok long agree all first = tt
