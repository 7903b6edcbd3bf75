-- A trial's edit is taken back by another one.
use Rattle.std.proofs.Common.{◌≡◌, ℕ, ◌≤◌, ◌==◌, true, false, cond, nat_le, nat_lt, List, [], ◌∷◌, Option, Some, None, option_and_then, Result, Ok, Err, OnOk, IfErr, IfSome, refl, sym, ap, subst, ◌∙◌, inl, inr, arith}
use Rattle.std.specs.Result.{is_ok, result_unwrap_or}
use Rattle.std.specs.Option.{option_map_or}
use Rattle.std.proofs.lemmas.Bool.{false≢true, eqb-true, eq-eqb, ne_eqb, le-ltb}
use Rattle.pesp_base.specs.Bounds.{Bounds}
use Rattle.pesp_base.specs.Numbered.{change_in, with_number}
use Rattle.pesp_base.proofs.Orders.{nat_le_not}
use Rattle.pesp_base.specs.Windows.{Interval, IsWindow, at_time}
use Rattle.pesp_base.specs.declared.activity.Activity.{Activity}
use Rattle.pesp_base.specs.declared.refusal.Refusal.{Refusal}
use Rattle.pesp_instance.specs.Edited.{IsRefusal, edited, effect, grows, rewindowed}
use Rattle.pesp_instance.specs.Network.{IsEvent, IsNetwork, Network, activity_of, event_of}
use Rattle.pesp_instance.specs.declared.edit.Edit.TheVariants.{Fix, SetSpan}
use Rattle.pesp_instance.specs.declared.event.Event.{Event}
use Rattle.pesp_instance.proofs.Numbers.{activity_number, event_number}
use Rattle.pesp_instance.proofs.Rising.{IfSome-with_number, Rises, Rises-from_increasing, change_in-above, number-with_number, with_number-change_in}
use Rattle.pesp_domains.proofs.Edits.{effect_is}
use Rattle.pesp_bench.specs.Trials.{edit_of, undo_of, window_edit}
use Rattle.pesp_bench.specs.declared.trial.Trial.{Trial}
use Rattle.pesp_bench.specs.declared.trial.Trial.TheVariants.{Time, Span}

-- a change of the member of a number, changed back
change_back : {X : Type 0} (number : X → ℕ) (n : ℕ) (f g : X → X) (x : X) (xs : List X) → ((y : X) → number (f y) ≡ number y) → Rises number xs → with_number number n xs ≡ Some x → g (f x) ≡ x → change_in number n g (change_in number n f xs) ≡ xs
change_back number n f g x [] keeps rises is back = refl
change_back number n f g x (y ∷ ys) keeps rises is back =
    elim (number y == n) as (λ b. (number y == n) ≡ b → cond b (Some y) (with_number number n ys) ≡ Some x → change_in number n g (cond b (f y) y ∷ change_in number n f ys) ≡ y ∷ ys) [
      | true ↦ λ same at.
          let e : x ≡ y = cc in
          let above : n ≤ number y = omega (arith, eqb-true (number y) n same) in
          let head : (number (f y) == n) ≡ true = ap (λ k. k == n) (keeps y) ∙ same in
          rw (change_in-above number n (number y) f ys above rises.0, change_in-above number n (number y) g ys above rises.0, head) (ap (λ z. z ∷ ys) (subst (λ z. g (f z) ≡ z) e back))
      | false ↦ λ apart later. rw apart (ap (λ zs. y ∷ zs) (change_back number n f g x ys keeps rises.1 later back))
    ] refl is

-- ---- windows

-- an event found has its number
found_number : (I : Network) (e : ℕ) (x : Event) → event_of I e ≡ Some x → (x.id == e) ≡ true
found_number I e x is = eq-eqb x.id e (number-with_number event_number e I.events x is)

-- the event of the number after its window is changed
rewindowed_event_of : (I : Network) (e : ℕ) (w : Option Interval) (x : Event) → event_of I e ≡ Some x → event_of (rewindowed I e w) e ≡ Some (record x { window = w })
rewindowed_event_of I e w x is =
    with_number-change_in event_number e e (λ y. record y { window = w }) (λ y. refl) I.events
    ∙ rw (is, found_number I e x is) refl

rewindowed_back : (I : Network) (e : ℕ) (w : Option Interval) (x : Event) → IsNetwork I → event_of I e ≡ Some x → rewindowed (rewindowed I e w) e x.window ≡ I
rewindowed_back I e w x network is =
    ap (λ events. record I { events = events })
    (change_back event_number e (λ y. record y { window = w }) (λ y. record y { window = x.window }) x I.events (λ y. refl) (Rises-from_increasing event_number I.events network.events_rise) is refl)

-- the window of an event is given back, and that is not refused
window_back : (I : Network) (e t : ℕ) (x : Event) (window : Option Interval) → IsNetwork I → event_of I e ≡ Some x → x.window ≡ window → edited (rewindowed I e (Some (at_time t))) (window_edit e window) ≡ Ok I
window_back I e t x None network is none =
    rw (rewindowed_event_of I e (Some (at_time t)) x is) (ap Ok (ap (λ w. rewindowed (rewindowed I e (Some (at_time t))) e w) (sym none) ∙ rewindowed_back I e (Some (at_time t)) x network is))
window_back I e t x (Some w) network is some =
    let within : IsWindow I.period w = (subst (λ o. IfSome o (IsWindow I.period)) some (IfSome-with_number event_number (IsEvent I.period) e I.events x network.events_within is).window) in
    let first : nat_le I.period w.first ≡ false = nat_le_not I.period w.first within.first in
    let length : (w.length == 0) ≡ false = ne_eqb w.length 0 (λ zero. absurd (omega (arith, zero, within.some))) in
    let once : nat_lt I.period w.length ≡ false = le-ltb I.period w.length within.once in
    rw (rewindowed_event_of I e (Some (at_time t)) x is, first, length, once) (ap Ok (ap (λ v. rewindowed (rewindowed I e (Some (at_time t))) e v) (sym some) ∙ rewindowed_back I e (Some (at_time t)) x network is))

-- ---- spans

activity_kept : (I : Network) (n : ℕ) (span : Bounds) (a : Activity) → activity_of I n ≡ Some a → activity_of (effect I (SetSpan n span)) n ≡ Some (record a { span = span })
activity_kept I n span a is =
    with_number-change_in activity_number n n (λ b. record b { span = span }) (λ b. refl) I.activities
    ∙ rw (is, eq-eqb a.id n (number-with_number activity_number n I.activities a is)) refl

-- the span of an activity is given back, and that is not refused
span_back : (I : Network) (n : ℕ) (span : Bounds) (a : Activity) → IsNetwork I → activity_of I n ≡ Some a → edited (effect I (SetSpan n span)) (SetSpan n a.span) ≡ Ok I
span_back I n span a network is =
    rw (activity_kept I n span a is)
    (ap (λ activities. Ok (record I { activities = activities }))
    (change_back activity_number n (λ b. record b { span = span }) (λ b. record b { span = a.span }) a I.activities (λ b. refl) (Rises-from_increasing activity_number I.activities network.activities_rise) is refl))

-- ---- trials

-- what takes an accepted trial back gives the instance, and is not refused
undo_accepted : (I J : Network) (trial : Trial) → IsNetwork I → edited I (edit_of trial) ≡ Ok J → edited J (undo_of I trial) ≡ Ok I
undo_accepted I J (Time e t) network made = rw (effect_is I J (Fix e t) made) (by (event_of I e) refl)
  where
    by : (o : Option Event) → event_of I e ≡ o → edited (effect I (Fix e t)) (window_edit e (option_and_then (λ x. x.window) (event_of I e))) ≡ Ok I
    by None none = absurd (false≢true (ap is_ok (rw none at made)))
    by (Some x) is = rw is (window_back I e t x x.window network is refl)
undo_accepted I J (Span n span) network made = rw (effect_is I J (SetSpan n span) made) (by (activity_of I n) refl)
  where
    by : (o : Option Activity) → activity_of I n ≡ o → edited (effect I (SetSpan n span)) (SetSpan n (option_map_or (λ a. a.span) (activity_of I n) span)) ≡ Ok I
    by None none = absurd (false≢true (ap is_ok (rw none at made)))
    by (Some a) is = rw is (span_back I n span a network is)

-- it never needs memory
undo_grows : (I : Network) (trial : Trial) → grows (undo_of I trial) ≡ false
undo_grows I (Time e t) = by (option_and_then (λ x. x.window) (event_of I e))
  where
    by : (w : Option Interval) → grows (window_edit e w) ≡ false
    by None = refl
    by (Some w) = refl
undo_grows I (Span n span) = refl

-- whatever it answers, the instance is as it was
pub undone : (I J K : Network) (trial : Trial) (answer : Result (Unit {0}) Refusal) → IsNetwork I → edited I (edit_of trial) ≡ Ok J → OnOk answer (edited J (undo_of I trial) ≡ Ok K) → IfErr answer (IsRefusal J (undo_of I trial)) → K ≡ I
undone I J K trial answer network made ok err = by answer (undo_accepted I J trial network made) ok err
  where
    by : (answer : Result (Unit {0}) Refusal) → edited J (undo_of I trial) ≡ Ok I → OnOk answer (edited J (undo_of I trial) ≡ Ok K) → IfErr answer (IsRefusal J (undo_of I trial)) → K ≡ I
    by (Ok done) back ok err = ap (λ r. result_unwrap_or r K) (sym ok ∙ back)
    by (Err refusal) back ok (inl refused) = absurd (false≢true (ap is_ok (sym refused ∙ back)))
    by (Err refusal) back ok (inr memory) = absurd (false≢true (sym (undo_grows I trial) ∙ memory.1))
