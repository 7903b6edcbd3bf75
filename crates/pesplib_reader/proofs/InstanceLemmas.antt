-- An instance with one more activity and its ends.
use Rattle.std.proofs.Common.{◌≡◌, ℕ, ◌+◌, ◌≤◌, ◌==◌, ◌||◌, Bool, true, false, cond, not, nat_lt, nat_le, [], ◌∷◌, length, Option, Some, None, Result, Ok, Err, IsOk, is_some, inl, inr, refl, sym, ap, subst, ◌∙◌, arith}
use Rattle.std.proofs.lemmas.Bool.{le-ltb, ltb-false, eq-eqb, ne_eqb, eqb-true, eqb-false, or_right}
use Rattle.pesp_base.specs.declared.activity.Activity.{Activity}
use Rattle.pesp_base.specs.declared.refusal.Refusal.{Refusal}
use Rattle.pesp_base.specs.declared.refusal.Refusal.TheVariants as no
use Rattle.pesp_base.specs.Limits.{max_activities, max_events}
use Rattle.pesp_base.specs.Refusals.{unless_refused, when}
use Rattle.pesp_instance.specs.declared.edit.Edit.TheVariants.{AddActivity, AddEvent}
use Rattle.pesp_instance.specs.declared.event.Event.{Event}
use Rattle.pesp_instance.specs.Edited.{IsRefusal, edited, effect}
use Rattle.pesp_instance.specs.Network.{Network, activity_of, event_of, has_event, new_event}
use Rattle.pesp_instance.proofs.Rising.{length-put_in, with_number-put_in}
use Rattle.pesplib_reader.specs.declared.fault.FaultKind.TheVariants as fault
use Rattle.pesplib_reader.specs.Reading.{activity_taken, with_activity, with_ends, with_event}
use Rattle.pesplib_reader.specs.Taking.{IsTakeFault}

-- ---- what an answer of an edit says

-- an activity that was added is new, and its ends are there
accepted : {X : Type 0} (p q r s : Bool) (a b c d : Refusal) (x y : X)
    → unless_refused (when p a ∷ when (not q) b ∷ when (not r) c ∷ when s d ∷ []) x ≡ Ok y
    → (p ≡ false) × (q ≡ true) × (r ≡ true) × (s ≡ false) × (x ≡ y)
accepted true q r s a b c d x y h = absurd (cc)
accepted false false r s a b c d x y h = absurd (cc)
accepted false true false s a b c d x y h = absurd (cc)
accepted false true true true a b c d x y h = absurd (cc)
accepted false true true false a b c d x y h = (refl, refl, refl, refl, cc)

-- no refusal of the first four is want of memory
refused : {X : Type 0} (p q r s : Bool) (n e f : ℕ) (x : X)
    → unless_refused (when p (no.ActivityExists n) ∷ when (not q) (no.NoEvent e) ∷ when (not r) (no.NoEvent f) ∷ when s no.TooManyActivities ∷ []) x ≡ Err no.Memory → ⊥
refused true q r s n e f x h = cc
refused false false r s n e f x h = cc
refused false true false s n e f x h = cc
refused false true true true n e f x h = cc
refused false true true false n e f x h = cc

-- an end does not change the period
pub event_period : (I : Network) (e : ℕ) → (with_event I e).period ≡ I.period
event_period I e = elim (has_event I e) as (λ t. (cond t I (effect I (AddEvent e))).period ≡ I.period) [ true ↦ refl | false ↦ refl ]

module _ (I : Network) (a : Activity) where
  abbrev too_many_events : Bool
  too_many_events = nat_lt (max_events I.period) (length (with_ends I a).events)

  no_faults : (p q r : Bool) (x : Network) → p ≡ false → q ≡ false → r ≡ false
      → unless_refused (when p fault.DuplicateActivity ∷ when q fault.TooManyEvents ∷ when r fault.TooManyActivities ∷ []) x ≡ Ok x
  no_faults p q r x e f g = rw (e, f, g) refl

  -- an activity without a fault
  pub taken_whole : is_some (activity_of I a.id) ≡ false → too_many_events ≡ false → nat_le (max_activities I.period) (length I.activities) ≡ false → activity_taken I a ≡ Ok (with_activity I a)
  taken_whole e f g = no_faults _ _ _ (with_activity I a) e f g

  with_known : (J : Network) (e : ℕ) → has_event J e ≡ true → with_event J e ≡ J
  with_known J e known = ap (λ t. cond t J (effect J (AddEvent e))) known

  module _ (few : length I.events ≤ max_events I.period) (J : Network) (added : edited I (AddActivity a) ≡ Ok J) where
    abbrev facts : (is_some (activity_of I a.id) ≡ false) × (has_event I a.from ≡ true) × (has_event I a.to ≡ true) × (nat_le (max_activities I.period) (length I.activities) ≡ false) × (effect I (AddActivity a) ≡ J)
    facts = accepted (is_some (activity_of I a.id)) (has_event I a.from) (has_event I a.to) (nat_le (max_activities I.period) (length I.activities)) (no.ActivityExists a.id) (no.NoEvent a.from) (no.NoEvent a.to) no.TooManyActivities (effect I (AddActivity a)) J added

    same_ends : with_ends I a ≡ I
    same_ends = ap (λ K. with_event K a.to) (with_known I a.from facts.1) ∙ with_known I a.to facts.2

    -- an activity that was added between events of the instance
    pub taken_at_once : activity_taken I a ≡ Ok J
    taken_at_once =
        taken_whole facts.0 (ap (λ K. nat_lt (max_events I.period) (length K.events)) same_ends ∙ le-ltb (max_events I.period) (length I.events) few) facts.3
        ∙ ap (λ K. Ok (effect K (AddActivity a))) same_ends ∙ ap (λ K. Ok K) facts.4

  -- an activity that could have been added, but for memory
  pub taken_but_for_memory : length I.events ≤ max_events I.period → IsRefusal I (AddActivity a) no.Memory → IsTakeFault (activity_taken I a) fault.Memory
  taken_but_for_memory few (inl h) = absurd (refused (is_some (activity_of I a.id)) (has_event I a.from) (has_event I a.to) (nat_le (max_activities I.period) (length I.activities)) a.id a.from a.to (effect I (AddActivity a)) h)
  taken_but_for_memory few (inr h) = could (edited I (AddActivity a)) refl h.2
    where
      could : (o : Result Network Refusal) → edited I (AddActivity a) ≡ o → IsOk o → IsTakeFault (activity_taken I a) fault.Memory
      could (Ok J) e is = subst (λ t. IsTakeFault t fault.Memory) (sym (taken_at_once few J e)) refl
      could (Err r) e is = absurd (cc)

  -- ---- ends do not change the period

  ends_period : (with_ends I a).period ≡ I.period
  ends_period = event_period (with_event I a.from) a.to ∙ event_period I a.from

  -- ---- how many events there are with the ends

  count_new : (J : Network) (e : ℕ) → has_event J e ≡ false → length (with_event J e).events ≡ length J.events + 1
  count_new J e new =
      ap (λ t. length (cond t J (effect J (AddEvent e))).events) new ∙ length-put_in (λ (x : Event). x.id) (new_event e) J.events (none (event_of J e) new)
    where
      none : (o : Option Event) → is_some o ≡ false → o ≡ None
      none None h = refl
      none (Some x) h = absurd (cc)

  count_known : (J : Network) (e : ℕ) → has_event J e ≡ true → length (with_event J e).events ≡ length J.events
  count_known J e known = ap (λ K. length K.events) (with_known J e known)

  with_one : (J : Network) (e : ℕ) → length (with_event J e).events ≤ length J.events + 1
  with_one J e =
      elim (has_event J e) as (λ t. has_event J e ≡ t → length (with_event J e).events ≤ length J.events + 1) [
        | true ↦ λ known. omega (arith, count_known J e known)
        | false ↦ λ new. omega (arith, count_new J e new)
      ] refl

  -- the ends are at most two new events
  pub room_for_two : length I.events + 2 ≤ max_events I.period → too_many_events ≡ false
  room_for_two room = le-ltb (max_events I.period) (length (with_ends I a).events) (omega (arith, room, with_one I a.from, with_one (with_event I a.from) a.to))

  -- an event is there with another where it is that one, or was there
  there_known : (J : Network) (e f : ℕ) → has_event J e ≡ true → has_event J f ≡ ((e == f) || has_event J f)
  there_known J e f known =
      elim (e == f) as (λ t. (e == f) ≡ t → has_event J f ≡ (t || has_event J f)) [
        | true ↦ λ same. ap (has_event J) (sym (eqb-true e f same)) ∙ known
        | false ↦ λ _. refl
      ] refl

  there_new : (J : Network) (e f : ℕ) → has_event (effect J (AddEvent e)) f ≡ ((e == f) || has_event J f)
  there_new J e f =
      ap is_some (with_number-put_in (λ (x : Event). x.id) f (new_event e) J.events)
      ∙ elim (e == f) as (λ t. is_some (cond t (Some (new_event e)) (event_of J f)) ≡ (t || has_event J f)) [ true ↦ refl | false ↦ refl ]

  there : (J : Network) (e f : ℕ) → has_event (with_event J e) f ≡ ((e == f) || has_event J f)
  there J e f =
      elim (has_event J e) as (λ t. has_event J e ≡ t → has_event (cond t J (effect J (AddEvent e))) f ≡ ((e == f) || has_event J f)) [
        | true ↦ λ known. there_known J e f known
        | false ↦ λ _. there_new J e f
      ] refl

  pub count_first_new : (n : ℕ) → n ≡ length I.events → has_event I a.from ≡ false → n + 1 ≡ length (with_event I a.from).events
  count_first_new n e new = omega (arith, e, count_new I a.from new)

  pub count_first_known : (n : ℕ) → n ≡ length I.events → has_event I a.from ≡ true → n ≡ length (with_event I a.from).events
  count_first_known n e known = e ∙ sym (count_known I a.from known)

  module _ (n : ℕ) (first : n ≡ length (with_event I a.from).events) where
    pub count_both_new : (a.to == a.from) ≡ false → has_event I a.to ≡ false → n + 1 ≡ length (with_ends I a).events
    count_both_new apart new =
        let missing : has_event (with_event I a.from) a.to ≡ false =
        there I a.from a.to ∙ ap (λ t. t || has_event I a.to) (ne_eqb a.from a.to (λ same. eqb-false a.to a.from apart (sym same))) ∙ new in
        omega (arith, first, count_new (with_event I a.from) a.to missing)

    pub count_both_known : has_event I a.to ≡ true → n ≡ length (with_ends I a).events
    count_both_known known =
        let found : has_event (with_event I a.from) a.to ≡ true = there I a.from a.to ∙ ap (λ t. (a.from == a.to) || t) known ∙ or_right (a.from == a.to) true refl in
        first ∙ sym (count_known (with_event I a.from) a.to found)

    pub count_loop : (a.to == a.from) ≡ true → n ≡ length (with_ends I a).events
    count_loop same =
        let found : has_event (with_event I a.from) a.to ≡ true = there I a.from a.to ∙ ap (λ t. t || has_event I a.to) (eq-eqb a.from a.to (sym (eqb-true a.to a.from same))) in
        first ∙ sym (count_known (with_event I a.from) a.to found)

-- ---- an event that is added

event_accepted : {X : Type 0} (p q : Bool) (a b : Refusal) (x y : X) → unless_refused (when p a ∷ when q b ∷ []) x ≡ Ok y → (p ≡ false) × (x ≡ y)
event_accepted true q a b x y h = absurd (cc)
event_accepted false true a b x y h = absurd (cc)
event_accepted false false a b x y h = (refl, cc)

event_there : {X : Type 0} (p q : Bool) (n e : ℕ) (x : X) → unless_refused (when p (no.EventExists n) ∷ when q no.TooManyEvents ∷ []) x ≡ Err (no.EventExists e) → p ≡ true
event_there true q n e x h = refl
event_there false true n e x h = absurd (cc)
event_there false false n e x h = absurd (cc)

module _ (I : Network) (e : ℕ) where
  pub event_added : (J : Network) → edited I (AddEvent e) ≡ Ok J → J ≡ with_event I e
  event_added J h =
      let facts = event_accepted (has_event I e) (nat_le (max_events I.period) (length I.events)) (no.EventExists e) no.TooManyEvents (effect I (AddEvent e)) J h in
      sym facts.1 ∙ ap (λ t. cond t I (effect I (AddEvent e))) (sym facts.0)

  pub event_known : (f : ℕ) → IsRefusal I (AddEvent e) (no.EventExists f) → I ≡ with_event I e
  event_known f (inl h) = ap (λ t. cond t I (effect I (AddEvent e))) (sym (event_there (has_event I e) (nat_le (max_events I.period) (length I.events)) e f (effect I (AddEvent e)) h))
  event_known f (inr h) = absurd (not_memory h.0)
    where
      not_memory : no.EventExists f ≡ no.Memory → ⊥
      not_memory h = cc

-- ---- an activity that is added after its ends

module _ (I J : Network) (a : Activity) where
  pub added_after : edited (with_ends I a) (AddActivity a) ≡ Ok J → with_activity I a ≡ J
  added_after h =
      (accepted (is_some (activity_of (with_ends I a) a.id)) (has_event (with_ends I a) a.from) (has_event (with_ends I a) a.to) (nat_le (max_activities (with_ends I a).period) (length (with_ends I a).activities)) (no.ActivityExists a.id) (no.NoEvent a.from) (no.NoEvent a.to) no.TooManyActivities (effect (with_ends I a) (AddActivity a)) J h).4

  few_by : (p q r : Bool) (x : Network) → unless_refused (when p fault.DuplicateActivity ∷ when q fault.TooManyEvents ∷ when r fault.TooManyActivities ∷ []) x ≡ Ok J → (q ≡ false) × (x ≡ J)
  few_by true q r x h = absurd (cc)
  few_by false true r x h = absurd (cc)
  few_by false false true x h = absurd (cc)
  few_by false false false x h = (refl, cc)

  -- there are not too many events after an activity was taken
  pub few_events : activity_taken I a ≡ Ok J → length J.events ≤ max_events J.period
  few_events h =
      let facts = few_by (is_some (activity_of I a.id)) (too_many_events I a) (nat_le (max_activities I.period) (length I.activities)) (with_activity I a) h in
      let le : length (with_ends I a).events ≤ max_events I.period = ltb-false (max_events I.period) (length (with_ends I a).events) facts.0 in
      subst (λ (K : Network). length K.events ≤ max_events K.period) facts.1
      (subst (λ period. length (with_ends I a).events ≤ max_events period) (sym (ends_period I a)) le)
