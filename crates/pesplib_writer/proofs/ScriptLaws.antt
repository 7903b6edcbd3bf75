-- The edits of an instance's script, applied to the instance without events, give the instance.
use Rattle.std.proofs.Common.{◌≡◌, ℕ, ◌+◌, ◌<◌, ◌≤◌, Bool, true, false, not, nat_le, nat_lt, ◌==◌, if◌then◌else◌, List, [], ◌∷◌, ◌++◌, length, map, filter_map, Option, Some, None, option_map, Ok, Err, is_some, refl, sym, ap, ◌∙◌, append_assoc, append-nil, length-append, arith, All}
use Rattle.std.specs.List.{cons_option}
use Rattle.std.proofs.lemmas.Bool.{le-ltb, lt-leb, ne_eqb, eq-eqb, eqb-true}
use Rattle.std.proofs.lemmas.List.{length-map}
use Rattle.std.proofs.lemmas.List.Elements.{All-head, All-tail}
use Rattle.pesp_base.specs.declared.activity.Activity.{Activity}
use Rattle.pesp_base.specs.declared.refusal.Refusal.{Refusal}
use Rattle.pesp_base.specs.Limits.{max_events, max_activities}
use Rattle.pesp_base.specs.Numbered.{with_number, change_in}
use Rattle.pesp_base.specs.Refusals.{unless_refused, when}
use Rattle.pesp_base.specs.Windows.{Interval, IsWindow, at_time}
use Rattle.pesp_instance.specs.declared.edit.Edit.{Edit}
use Rattle.pesp_instance.specs.declared.edit.Edit.TheVariants.{AddEvent, Fix, SetWindow, AddActivity}
use Rattle.pesp_instance.specs.Edited.{edited, effect, empty_network}
use Rattle.pesp_instance.specs.declared.event.Event.{Event}
use Rattle.pesp_instance.specs.Network.{Network, IsNetwork, IsEvent, HasEnds, event_ids, has_event, activity_of, new_event}
use Rattle.pesp_instance.proofs.Rising.{IsAbove, Rises, Rises-from_increasing, change_in-above}
use Rattle.pesplib_reader.proofs.FixedLemmas.{fix_edited}
use Rattle.pesplib_writer.specs.Script.{applied, on_accepted, own_edit, script_edits, window_edit}
use Rattle.pesplib_writer.specs.Texts.{without_window}
use Rattle.pesplib_writer.proofs.OrderLaws.{above_before}
use Rattle.pesp_instance.proofs.Numbers.{activity_number as id_of, event_number as number}
use Rattle.pesp_instance.proofs.PutLast.{none_before, put_last}

-- ---- a number that is above those before it

module _ {X : Type 0} (number : X → ℕ) where
  -- a change reaches the one member of its number, with others before and after it
  change_between : (change : X → X) (xs : List X) (x : X) (rest : List X) → Rises number (xs ++ x ∷ rest)
      → change_in number (number x) change (xs ++ x ∷ rest) ≡ xs ++ change x ∷ rest
  change_between change [] x rest rises =
      rw (eq-eqb (number x) (number x) refl, change_in-above number (number x) (number x) change rest (omega arith) rises.0) refl
  change_between change (y ∷ xs) x rest rises =
      let apart : (number y == number x) ≡ false = ne_eqb (number y) (number x) (λ same. absurd (omega (arith, above_before number (number y) xs rest x rises.0, same))) in
      rw (apart, change_between change xs x rest rises.1) refl

  found_between : (xs : List X) (x : X) (rest : List X) → Rises number (xs ++ x ∷ rest) → with_number number (number x) (xs ++ x ∷ rest) ≡ Some x
  found_between [] x rest rises = rw (eq-eqb (number x) (number x) refl) refl
  found_between (y ∷ xs) x rest rises =
      let apart : (number y == number x) ≡ false = ne_eqb (number y) (number x) (λ same. absurd (omega (arith, above_before number (number y) xs rest x rises.0, same))) in
      rw apart (found_between xs x rest rises.1)

-- ---- edits after edits

applied-append : (I : Network) (edits more : List Edit) → applied I (edits ++ more) ≡ on_accepted (λ J. applied J more) (applied I edits)
applied-append I [] more = refl
applied-append I (edit ∷ edits) more =
    elim (edited I edit) as (λ r. on_accepted (λ J. applied J (edits ++ more)) r ≡ on_accepted (λ J. applied J more) (on_accepted (λ J. applied J edits) r)) [
      | Ok J ↦ applied-append J edits more
      | Err refusal ↦ refl
    ]

then_applied : (I J : Network) (edits more : List Edit) → applied I edits ≡ Ok J → applied I (edits ++ more) ≡ applied J more
then_applied I J edits more h = applied-append I edits more ∙ ap (on_accepted (λ K. applied K more)) h

first_applied : (I J : Network) (edit : Edit) (edits : List Edit) → edited I edit ≡ Ok J → applied I (edit ∷ edits) ≡ applied J edits
first_applied I J edit edits h = ap (on_accepted (λ K. applied K edits)) h

-- ---- the events

module _ (period : ℕ) where
  abbrev with_events : List Event → Network
  with_events events = record { period = period; events = events; activities = [] }

  event_accepted : (p q : Bool) (a b : Refusal) (J : Network) → p ≡ false → q ≡ false → unless_refused (when p a ∷ when q b ∷ []) J ≡ Ok J
  event_accepted p q a b J new room = rw (new, room) refl

  event_added : (done rest : List Event) (e : ℕ) → Rises number (done ++ new_event e ∷ rest) → length done < max_events period
      → edited (with_events done) (AddEvent e) ≡ Ok (with_events (done ++ new_event e ∷ []))
  event_added done rest e rises room =
      event_accepted (has_event (with_events done) e) (nat_le (max_events period) (length done)) _ _ (effect (with_events done) (AddEvent e))
      (ap is_some (none_before number done (new_event e) rest rises)) (lt-leb (max_events period) (length done) room)
      ∙ ap (λ events. Ok (with_events events)) (put_last number done (new_event e) rest rises)

  events_added : (done : List Event) (numbers : List ℕ) → Rises number (done ++ map new_event numbers) → length done + length numbers ≤ max_events period
      → applied (with_events done) (map AddEvent numbers) ≡ Ok (with_events (done ++ map new_event numbers))
  events_added done [] rises few = ap (λ events. Ok (with_events events)) (sym (append-nil done))
  events_added done (e ∷ numbers) rises few =
      let joins = append_assoc done (new_event e ∷ []) (map new_event numbers) in
      let more : Rises number ((done ++ new_event e ∷ []) ++ map new_event numbers) = rw joins rises in
      let room : length (done ++ new_event e ∷ []) + length numbers ≤ max_events period = omega (arith, few, length-append done (new_event e ∷ [])) in
      first_applied (with_events done) (with_events (done ++ new_event e ∷ [])) (AddEvent e) (map AddEvent numbers) (event_added done (map new_event numbers) e rises (omega (arith, few)))
      ∙ events_added (done ++ new_event e ∷ []) numbers more room
      ∙ ap (λ events. Ok (with_events events)) joins

-- ---- their windows

-- a window of the period is not refused
window_edited : (J : Network) (e : ℕ) (w : Interval) → has_event J e ≡ true → IsWindow J.period w → edited J (SetWindow e w.first w.length) ≡ Ok (effect J (SetWindow e w.first w.length))
window_edited J e w known within =
    let first : nat_le J.period w.first ≡ false = lt-leb J.period w.first within.first in
    let some : (w.length == 0) ≡ false = ne_eqb w.length 0 (λ none. absurd (omega (arith, within.some, none))) in
    let once : nat_lt J.period w.length ≡ false = le-ltb J.period w.length within.once in
    rw (known, first, some, once) refl

new_event-without_windows : (events : List Event) → map new_event (map number events) ≡ map without_window events
new_event-without_windows [] = refl
new_event-without_windows (e ∷ events) = ap (λ rest. without_window e ∷ rest) (new_event-without_windows events)

windowless_above : (n : ℕ) (events : List Event) → IsAbove number n events → IsAbove number n (map without_window events)
windowless_above n [] above = tt
windowless_above n (e ∷ events) above = (above.0, windowless_above n events above.1)

windowless_rise : (events : List Event) → Rises number events → Rises number (map without_window events)
windowless_rise [] rises = tt
windowless_rise (e ∷ events) rises = (windowless_above e.id events rises.0, windowless_rise events rises.1)

above_windowless : (n : ℕ) (done events : List Event) → IsAbove number n (done ++ events) → IsAbove number n (done ++ map without_window events)
above_windowless n [] events above = windowless_above n events above
above_windowless n (d ∷ done) events above = (above.0, above_windowless n done events above.1)

-- the events whose windows are yet to be set rise after those whose windows are
rises_windowless : (done events : List Event) → Rises number (done ++ events) → Rises number (done ++ map without_window events)
rises_windowless [] events rises = windowless_rise events rises
rises_windowless (d ∷ done) events rises = (above_windowless d.id done events rises.0, rises_windowless done events rises.1)

module _ (period : ℕ) where
  -- an event's window is set, with events before and after it
  changed_to : (done rest : List Event) (e : Event) (w : Interval) → Rises number (done ++ without_window e ∷ rest) → e.window ≡ Some w
      → with_events period (change_in number e.id (λ x. record x { window = Some w }) (done ++ without_window e ∷ rest)) ≡ with_events period (done ++ e ∷ rest)
  changed_to done rest e w rises is =
      let same : record { id = e.id; window = Some w } ≡ e = ap (λ (window : Option Interval). record e { window = window }) (sym is) in
      ap (with_events period) (change_between number (λ x. record x { window = Some w }) done (without_window e) rest rises ∙ ap (λ x. done ++ x ∷ rest) same)

  window_set : (done rest : List Event) (e : Event) (w : Interval) → Rises number (done ++ without_window e ∷ rest) → IsWindow period w → e.window ≡ Some w
      → edited (with_events period (done ++ without_window e ∷ rest)) (window_edit e.id w) ≡ Ok (with_events period (done ++ e ∷ rest))
  window_set done rest e w rises within is =
      let before = with_events period (done ++ without_window e ∷ rest) in
      let known = ap is_some (found_between number done (without_window e) rest rises) in
      elim (w.length == 1) as (λ b. (w.length == 1) ≡ b → edited before (if b then Fix e.id w.first else SetWindow e.id w.first w.length) ≡ Ok (with_events period (done ++ e ∷ rest))) [
        | true ↦ λ one.
            let length : w.length ≡ 1 = eqb-true w.length 1 one in
            let time : at_time w.first ≡ w = ap (λ n. record w { length = n }) (sym length) in
            fix_edited before e.id w.first known within.first
            ∙ ap (λ v. Ok (with_events period (change_in number e.id (λ x. record x { window = Some v }) (done ++ without_window e ∷ rest)))) time
            ∙ ap Ok (changed_to done rest e w rises is)
        | false ↦ λ more. window_edited before e.id w known within ∙ ap Ok (changed_to done rest e w rises is)
      ] refl

  windows_set : (done events : List Event) → Rises number (done ++ events) → All (IsEvent period) events
      → applied (with_events period (done ++ map without_window events)) (filter_map own_edit events) ≡ Ok (with_events period (done ++ events))
  windows_set done [] rises within = refl
  windows_set done (e ∷ events) rises within =
      let joins = append_assoc done (e ∷ []) events in
      let more : Rises number ((done ++ e ∷ []) ++ events) = rw joins rises in
      let later : applied (with_events period (done ++ e ∷ map without_window events)) (filter_map own_edit events) ≡ Ok (with_events period (done ++ e ∷ events)) =
      ap (λ es. applied (with_events period es) (filter_map own_edit events)) (sym (append_assoc done (e ∷ []) (map without_window events)))
      ∙ windows_set (done ++ e ∷ []) events more (All-tail (IsEvent period) e events within)
      ∙ ap (λ es. Ok (with_events period es)) joins in
      elim e.window as (λ o. e.window ≡ o → applied (with_events period (done ++ without_window e ∷ map without_window events)) (cons_option (option_map (window_edit e.id) o) (filter_map own_edit events)) ≡ Ok (with_events period (done ++ e ∷ events))) [
        | None ↦ λ is.
            let same : without_window e ≡ e = ap (λ (window : Option Interval). record e { window = window }) (sym is) in
            ap (λ x. applied (with_events period (done ++ x ∷ map without_window events)) (filter_map own_edit events)) same ∙ later
        | Some t ↦ λ is.
            let inside : IsWindow period t = rw is at (All-head (IsEvent period) e events within).window in
            first_applied (with_events period (done ++ without_window e ∷ map without_window events)) (with_events period (done ++ e ∷ map without_window events)) (window_edit e.id t) (filter_map own_edit events)
            (window_set done (map without_window events) e t (rises_windowless done (e ∷ events) rises) inside is)
            ∙ later
      ] refl

-- ---- the activities

module _ (period : ℕ) (events : List Event) where
  abbrev with_activities : List Activity → Network
  with_activities activities = record { period = period; events = events; activities = activities }

  activity_accepted : (p q r s : Bool) (a b c d : Refusal) (J : Network) → p ≡ false → q ≡ true → r ≡ true → s ≡ false
      → unless_refused (when p a ∷ when (not q) b ∷ when (not r) c ∷ when s d ∷ []) J ≡ Ok J
  activity_accepted p q r s a b c d J new from to room = rw (new, from, to, room) refl

  activity_added : (done rest : List Activity) (a : Activity) → Rises id_of (done ++ a ∷ rest) → HasEnds events a → length done < max_activities period
      → edited (with_activities done) (AddActivity a) ≡ Ok (with_activities (done ++ a ∷ []))
  activity_added done rest a rises has room =
      activity_accepted (is_some (activity_of (with_activities done) a.id)) (has_event (with_activities done) a.from) (has_event (with_activities done) a.to) (nat_le (max_activities period) (length done)) _ _ _ _ (effect (with_activities done) (AddActivity a))
      (ap is_some (none_before id_of done a rest rises)) has.from has.to (lt-leb (max_activities period) (length done) room)
      ∙ ap (λ activities. Ok (with_activities activities)) (put_last id_of done a rest rises)

  activities_added : (done activities : List Activity) → Rises id_of (done ++ activities) → All (HasEnds events) activities → length done + length activities ≤ max_activities period
      → applied (with_activities done) (map AddActivity activities) ≡ Ok (with_activities (done ++ activities))
  activities_added done [] rises has few = ap (λ activities. Ok (with_activities activities)) (sym (append-nil done))
  activities_added done (a ∷ activities) rises has few =
      let joins = append_assoc done (a ∷ []) activities in
      let more : Rises id_of ((done ++ a ∷ []) ++ activities) = rw joins rises in
      let room : length (done ++ a ∷ []) + length activities ≤ max_activities period = omega (arith, few, length-append done (a ∷ [])) in
      first_applied (with_activities done) (with_activities (done ++ a ∷ [])) (AddActivity a) (map AddActivity activities) (activity_added done activities a rises (All-head (HasEnds events) a activities has) (omega (arith, few)))
      ∙ activities_added (done ++ a ∷ []) activities more (All-tail (HasEnds events) a activities has) room
      ∙ ap (λ all. Ok (with_activities all)) joins

-- the edits of an instance's script are all accepted, and give the instance
pub script_builds : (I : Network) → IsNetwork I → applied (empty_network I.period) (script_edits I) ≡ Ok I
script_builds I net =
    let events_rise = Rises-from_increasing number I.events net.events_rise in
    let activities_rise = Rises-from_increasing id_of I.activities net.activities_rise in
    let bare_rise : Rises number (map new_event (event_ids I)) = rw (new_event-without_windows I.events) (windowless_rise I.events events_rise) in
    let few : length {A = Event} [] + length (event_ids I) ≤ max_events I.period = omega (arith, net.few_events, length-map I.events number) in
    let few_activities : length {A = Activity} [] + length I.activities ≤ max_activities I.period = omega (arith, net.few_activities) in
    let events : applied (empty_network I.period) (map AddEvent (event_ids I)) ≡ Ok (with_events I.period (map without_window I.events)) =
    events_added I.period [] (event_ids I) bare_rise few ∙ ap (λ es. Ok (with_events I.period es)) (new_event-without_windows I.events) in
    ap (applied (empty_network I.period)) (append_assoc (map AddEvent (event_ids I)) (filter_map own_edit I.events) (map AddActivity I.activities))
    ∙ then_applied (empty_network I.period) (with_events I.period (map without_window I.events)) (map AddEvent (event_ids I)) (filter_map own_edit I.events ++ map AddActivity I.activities) events
    ∙ then_applied (with_events I.period (map without_window I.events)) (with_events I.period I.events) (filter_map own_edit I.events) (map AddActivity I.activities) (windows_set I.period [] I.events events_rise net.events_within)
    ∙ activities_added I.period I.events [] I.activities activities_rise net.ends few_activities
