-- What stays true of a workbench through edits and through changes of its times.
use Rattle.std.proofs.Common.{◌≡◌, ℕ, ◌<◌, ◌==◌, ◌&&◌, Bool, true, false, cond, not, nat_le, is_none, is_some, List, [], ◌∷◌, ◌++◌, append_assoc, length, Option, Some, None, IfSome, IsSome, IsTrue, Result, Ok, Err, OnOk, OnErr, IfErr, refl, sym, ap, subst, ◌∙◌, inl, inr, arith, map}
use Rattle.std.specs.List.Sorted.{IsStrictlyIncreasing}
use Rattle.std.specs.Map.{keys_of}
use Rattle.std.specs.Result.{is_err}
use Rattle.std.proofs.lemmas.Bool.{false≢true, ne_eqb}
use Rattle.pesp_base.specs.declared.refusal.Refusal.{Refusal}
use Rattle.pesp_base.specs.declared.refusal.Refusal.TheVariants as no
use Rattle.pesp_base.specs.Limits.{max_events}
use Rattle.pesp_base.specs.Numbered.{with_number}
use Rattle.pesp_base.specs.Refusals.{unless_refused, when}
use Rattle.pesp_instance.specs.declared.edit.Edit.{Edit}
use Rattle.pesp_instance.specs.declared.edit.Edit.TheVariants.{AddEvent, DropEvent, Fix, SetWindow, Unfix, AddActivity, DropActivity, SetSpan, SetWeight, SetEnds}
use Rattle.pesp_instance.specs.declared.event.Event.{Event}
use Rattle.pesp_instance.specs.Edited.{edited, effect}
use Rattle.pesp_instance.specs.Network.{IsNetwork, Network, has_event, new_event}
use Rattle.pesp_instance.proofs.Rising.{Rises, Rises-from_increasing, increasing_from_rises}
use Rattle.pesp_tension.specs.Timetables.{IsRefusalBy, IsSetRefusal, Times, set_time, time_of, timed_events, with_time, without_time}
use Rattle.pesp_domains.proofs.Edits.{accepted, effect_is, has_out, has_put, keeps_fix, keeps_window, keeps_unfix}
use Rattle.pesp_domains.specs.declared.pair.Pair.{Pair}
use Rattle.pesp_search.specs.declared.answer.Answer.{Answer}
use Rattle.pesp_search.specs.declared.answer.Answer.TheVariants.{Optimal}
use Rattle.pesp_search.specs.Optima.{IsAnswer, IsOptimum}
use Rattle.pesp_bench.specs.Kept.{IsKeptBy}
use Rattle.pesp_bench.proofs.KeptAnswers.{kept_answer}
use Rattle.pesp_instance.proofs.Housed.{same_test}
use Rattle.pesp_bench.specs.State.{IsState, IsTimeRefusal, State, timed_state, times_after}
use Rattle.pesp_bench.proofs.Entries.{found, found_put, found_without, key, put_last, rises_put, rises_without, room}
use Rattle.pesp_base.proofs.Orders.{nat_le_not}

-- the events that have a time ascend
ascend : (I : Network) (pushed : List Pair) (m : Times) (known : Option Answer) → IsState I pushed m known → Rises key m.entries
ascend I pushed m known s = Rises-from_increasing key m.entries s.rising

-- ---- edits

-- each event with a time is still an event after an accepted edit
events_stay : (I : Network) (edit : Edit) (m : Times) → Rises key m.entries → ((q : ℕ) → IsSome (time_of m q) → IsTrue (has_event I q))
    → (q : ℕ) → IsSome (time_of (times_after edit m) q) → IsTrue (has_event (effect I edit) q)
events_stay I (AddEvent e) m rises each q some =
    let v : Event = new_event e in
    rw (has_put I.events v q) (elim (q == e) as (λ b. IsTrue (cond b true (has_event I q))) [ true ↦ refl | false ↦ each q some ])
events_stay I (DropEvent e) m rises each q some =
    let w = found_without e q m.entries rises some in
    rw (has_out I.events e q, ne_eqb q e w.0) (each q w.1)
events_stay I (Fix e t) m rises each q some = (keeps_fix e t I).1 q ∙ each q some
events_stay I (SetWindow e first length) m rises each q some = (keeps_window e first length I).1 q ∙ each q some
events_stay I (Unfix e) m rises each q some = (keeps_unfix e I).1 q ∙ each q some
events_stay I (AddActivity a) m rises each q some = each q some
events_stay I (DropActivity n) m rises each q some = each q some
events_stay I (SetSpan n span) m rises each q some = each q some
events_stay I (SetWeight n weight) m rises each q some = each q some
events_stay I (SetEnds n from to) m rises each q some = each q some

-- the period is never edited
period_stays : (I : Network) (edit : Edit) → (effect I edit).period ≡ I.period
period_stays I (AddEvent e) = refl
period_stays I (DropEvent e) = refl
period_stays I (Fix e t) = refl
period_stays I (SetWindow e first length) = refl
period_stays I (Unfix e) = refl
period_stays I (AddActivity a) = refl
period_stays I (DropActivity n) = refl
period_stays I (SetSpan n span) = refl
period_stays I (SetWeight n weight) = refl
period_stays I (SetEnds n from to) = refl

-- and the times ascend
times_rise : (edit : Edit) (m : Times) → Rises key m.entries → Rises key (times_after edit m).entries
times_rise (AddEvent e) m rises = rises
times_rise (DropEvent e) m rises = rises_without e m.entries rises
times_rise (Fix e t) m rises = rises
times_rise (SetWindow e first length) m rises = rises
times_rise (Unfix e) m rises = rises
times_rise (AddActivity a) m rises = rises
times_rise (DropActivity n) m rises = rises
times_rise (SetSpan n span) m rises = rises
times_rise (SetWeight n weight) m rises = rises
times_rise (SetEnds n from to) m rises = rises

times_period : (edit : Edit) (m : Times) → (times_after edit m).period ≡ m.period
times_period (AddEvent e) m = refl
times_period (DropEvent e) m = refl
times_period (Fix e t) m = refl
times_period (SetWindow e first length) m = refl
times_period (Unfix e) m = refl
times_period (AddActivity a) m = refl
times_period (DropActivity n) m = refl
times_period (SetSpan n span) m = refl
times_period (SetWeight n weight) m = refl
times_period (SetEnds n from to) m = refl

-- what is known after an accepted edit is the optimum
known_after : (I J : Network) (edit : Edit) (known after : Option Answer) → IsNetwork I → edited I edit ≡ Ok J → IsKeptBy I edit known after → IfSome known (IsAnswer I) → IfSome after (IsAnswer J)
known_after I J edit known None network is kept answer = tt
known_after I J edit known (Some after) network is kept answer =
    let w = kept.only after refl in
    kept_answer I J edit after network is w.1 (subst (λ o. IfSome o (IsAnswer I)) w.0 answer)

-- after an accepted edit
pub after_edit : (I J : Network) (edit : Edit) (before after : List Pair) (m : Times) (known kept : Option Answer)
    → IsState I before m known → IsNetwork I → edited I edit ≡ Ok J → after ≡ [] → IsKeptBy I edit known kept → IsState J after (times_after edit m) kept
after_edit I J edit before after m known kept s network is none stays =
    let up = ascend I before m known s in
    let at : J ≡ effect I edit = effect_is I J edit is in
    record {
      nothing = none;
      period = times_period edit m ∙ s.period ∙ sym (period_stays I edit) ∙ ap (λ (n : Network). n.period) (sym at);
      rising = increasing_from_rises key (times_after edit m).entries (times_rise edit m up);
      events = λ q some. rw at (events_stay I edit m up s.events q some);
      optimum = known_after I J edit known kept network is stays s.optimum;
    }

-- ---- times

-- after a time is given to an event
pub after_time : (I : Network) (pushed : List Pair) (m n : Times) (known : Option Answer) (e t : ℕ)
    → IsState I pushed m known → IsTrue (has_event I e) → n ≡ with_time m e t → IsState I pushed n known
after_time I pushed m n known e t s is at = rw at record {
  nothing = s.nothing;
  period = s.period;
  rising = increasing_from_rises key (with_time m e t).entries (rises_put e t m.entries (ascend I pushed m known s));
  events = λ q some. elim (found_put e t q m.entries some) [ inl same ↦ rw same is | inr before ↦ s.events q before ];
  optimum = s.optimum;
}

-- after a time is taken away
pub after_clear : (I : Network) (pushed : List Pair) (m n : Times) (known : Option Answer) (e : ℕ)
    → IsState I pushed m known → n ≡ without_time m e → IsState I pushed n known
after_clear I pushed m n known e s at = rw at record {
  nothing = s.nothing;
  period = s.period;
  rising = increasing_from_rises key (without_time m e).entries (rises_without e m.entries (ascend I pushed m known s));
  events = λ q some. s.events q (found_without e q m.entries (ascend I pushed m known s) some).1;
  optimum = s.optimum;
}

-- the refusals that a time may meet
abbrev faults : Times → ℕ → ℕ → List (Option Refusal)
faults m e t = when (nat_le m.period t) (no.TimeOutOfRange t) ∷ when (is_none (time_of m e) && nat_le (max_events m.period) (length m.entries)) no.TooManyEvents ∷ []

-- after a time was set, or a refusal
pub after_set : (I : Network) (pushed : List Pair) (m n : Times) (known : Option Answer) (e t : ℕ) (answer : Result (Unit {0}) Refusal)
    → IsState I pushed m known → IsTrue (has_event I e) → OnOk answer (set_time m e t ≡ Ok n) → OnErr answer (n ≡ m) → IsState I pushed n known
after_set I pushed m n known e t (Ok done) s is ok same = after_time I pushed m n known e t s is (accepted (faults m e t) (with_time m e t) n ok)
after_set I pushed m n known e t (Err refusal) s is ok same = rw same s

-- why a time is not set
pub set_refused : (s : State) (pushed : List Pair) (e t : ℕ) (answer : Result (Unit {0}) Refusal)
    → IsState s.instance pushed s.times s.known → IsNetwork s.instance → IsTrue (has_event s.instance e)
    → IfErr answer (IsSetRefusal s.times e t) → IfErr answer (IsTimeRefusal s e t)
set_refused s pushed e t (Ok done) st network is err = tt
set_refused s pushed e t (Err refusal) st network is err = by (nat_le s.times.period t) (rw full at err) state_is
  where
    full : (is_none (time_of s.times e) && nat_le (max_events s.times.period) (length s.times.entries)) ≡ false
    full = by_time (time_of s.times e) refl
      where
        by_time : (o : Option ℕ) → time_of s.times e ≡ o → (is_none o && nat_le (max_events s.times.period) (length s.times.entries)) ≡ false
        by_time (Some u) at = refl
        by_time None at =
            let l = room s.times.entries s.instance.events e t (ascend s.instance pushed s.times s.known st) (Rises-from_increasing (λ x. x.id) s.instance.events network.events_rise) st.events is at in
            let few : length s.times.entries < max_events s.instance.period = let k = network.few_events in omega (arith, l, k) in
            rw st.period (nat_le_not (max_events s.instance.period) (length s.times.entries) few)

    state_is : timed_state s e t ≡ unless_refused (when (nat_le s.times.period t) (no.TimeOutOfRange t) ∷ []) (record s { times = with_time s.times e t })
    state_is = rw (is, st.period) refl

    by : (b : Bool) → IsRefusalBy s.times e (unless_refused (when b (no.TimeOutOfRange t) ∷ None ∷ []) (with_time s.times e t)) refusal
        → timed_state s e t ≡ unless_refused (when b (no.TimeOutOfRange t) ∷ []) (record s { times = with_time s.times e t }) → IsTimeRefusal s e t refusal
    by true first at = inl (at ∙ ap Err (sym first))
    by false wanted at = inr (wanted.0, wanted.1, at)

-- ---- the optimum as working timetable

-- what is found among entries of the events is an event
found_has : (es : List (ℕ × ℕ)) (xs : List Event) (q : ℕ) → keys_of es ≡ map (λ x. x.id) xs → IsSome (found q es) → IsTrue (is_some (with_number (λ x. x.id) q xs))
found_has [] xs q keys some = absurd (false≢true some)
found_has (x ∷ es) [] q keys some = absurd (cc)
found_has (x ∷ es) (y ∷ xs) q keys some =
    let head : x.0 ≡ y.id = cc in
    let tail : keys_of es ≡ map (λ x. x.id) xs = cc in
    (elim (y.id == q) as (λ b. IsSome (cond b (Some x.1) (found q es)) → IsTrue (is_some (cond b (Some y) (with_number (λ x. x.id) q xs)))) [
      | true ↦ λ left. refl
      | false ↦ λ left. found_has es xs q tail left
    ]) (rw (same_test q x.0, head) at some)

-- an optimum that is known
pub adopted : (I : Network) (pushed : List Pair) (m n : Times) (known : Option Answer) (cost : ℕ)
    → IsState I pushed m known → known ≡ Some (Optimal cost n) → IsOptimum I n cost
adopted I pushed m n known cost s is = rw is at s.optimum

-- after the optimum is adopted
pub after_adopt : (I : Network) (pushed : List Pair) (m n : Times) (known : Option Answer) (cost : ℕ)
    → IsState I pushed m known → known ≡ Some (Optimal cost n) → IsStrictlyIncreasing (timed_events n) → IsState I pushed n known
after_adopt I pushed m n known cost s is rising =
    let optimum : IsOptimum I n cost = adopted I pushed m n known cost s is in
    record {
      nothing = s.nothing;
      period = optimum.member.period;
      rising = rising;
      events = λ q some. found_has n.entries I.events q optimum.member.events some;
      optimum = s.optimum;
    }

-- ---- a timetable once more

-- one entry more of those that are copied
pub copied : (all m n : Times) (rest : List (ℕ × ℕ)) (e t : ℕ) (answer : Result (Unit {0}) Refusal)
    → OnOk answer (set_time m e t ≡ Ok n) → is_err answer ≡ false → m.period ≡ all.period → all.entries ≡ m.entries ++ (e, t) ∷ rest
    → IsStrictlyIncreasing (timed_events all) → (n.period ≡ all.period) × (all.entries ≡ n.entries ++ rest)
copied all m n rest e t (Err refusal) ok not period entries rising = absurd (false≢true (sym not))
copied all m n rest e t (Ok done) ok not period entries rising =
    let at : n ≡ with_time m e t = accepted (faults m e t) (with_time m e t) n ok in
    let up : Rises key (m.entries ++ (e, t) ∷ rest) = subst (Rises key) entries (Rises-from_increasing key all.entries rising) in
    rw (at, put_last m.entries rest e t up) (period, entries ∙ sym (append_assoc m.entries ((e, t) ∷ []) rest))
