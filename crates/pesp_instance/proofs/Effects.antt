-- What an accepted edit makes of an instance is an instance.
use Rattle.std.proofs.Common.{◌≡◌, ℕ, ◌<◌, ◌≤◌, Bool, true, false, cond, not, ◌==◌, List, [], ◌∷◌, length, map, filter, find, Option, Some, None, Result, Ok, Err, is_err, OnOk, OnErr, IfSome, IsTrue, is_some, is_none, option_map, slice_index_or, refl, ap, ◌∙◌, arith, All}
use Rattle.std.proofs.lemmas.Bool.{eqb-true, or_parts}
use Rattle.std.proofs.lemmas.List.Elements.{All-nil, All-cons, All-weaker}
use Rattle.std.specs.List.Sorted.{IsStrictlyIncreasing}
use Rattle.pesp_base.specs.declared.activity.Activity.{Activity}
use Rattle.pesp_base.specs.Limits.{greatest_number, max_activities, max_events}
use Rattle.pesp_base.specs.Windows.{Interval, IsWindow}
use Rattle.pesp_base.specs.Numbered.{with_number, put_in, take_out, change_in}
use Rattle.pesp_instance.specs.Edited.{effect, rewindowed, changed}
use Rattle.pesp_instance.specs.Network.{Event, Network, is_end_of, new_event, IsEvent, IsActivity, HasEnds, IsNetwork}
use Rattle.pesp_instance.specs.declared.edit.Edit.TheVariants.{AddEvent, DropEvent, AddActivity, DropActivity}
use Rattle.pesp_instance.proofs.Numbers.{activity_number as id_of, event_number as number}
use Rattle.pesp_instance.proofs.Rising.{Rises-from_increasing, increasing_from_rises, Rises-put_in, Rises-take_out, Rises-change_in, All-put_in, All-take_out, All-change_in, length-put_in, length-take_out, length-change_in, with_number-put_in, with_number-take_out, with_number-change_in, number-with_number, change_in-with_number}

-- the ends are still events where each event is still one
HasEnds-kept : (old new : List Event) → ((n : ℕ) → IsTrue (is_some (with_number number n old)) → IsTrue (is_some (with_number number n new))) → (a : Activity) → HasEnds old a → HasEnds new a
HasEnds-kept old new kept a ends = record { from = kept a.from ends.from; to = kept a.to ends.to }

pub added_event : (I : Network) (e : ℕ) → IsNetwork I → e ≤ greatest_number → with_number number e I.events ≡ None → length I.events < max_events I.period → IsNetwork (effect I (AddEvent e))
added_event I e net limit absent few =
    let new : Event = new_event e in record {
      period_low = net.period_low;
      period_high = net.period_high;
      events_rise = increasing_from_rises number _ (Rises-put_in number new I.events (Rises-from_increasing number I.events net.events_rise));
      events_within = All-put_in number (IsEvent I.period) new I.events (record { number = limit; window = tt }) net.events_within;
      few_events = omega (arith, length-put_in number new I.events absent, few);
      activities_rise = net.activities_rise;
      activities_within = net.activities_within;
      few_activities = net.few_activities;
      ends = All-weaker (HasEnds I.events) (HasEnds (put_in number new I.events)) (HasEnds-kept I.events (put_in number new I.events) (λ n is. rw (with_number-put_in number n new I.events) (elim (e == n) as (λ b. is_some (cond b (Some new) (with_number number n I.events)) ≡ true) [ true ↦ refl | false ↦ is ]))) I.activities net.ends;
    }

-- an event that no activity has as an end
none_around : (e : ℕ) (activities : List Activity) → filter (is_end_of e) activities ≡ [] → All (λ a. is_end_of e a ≡ false) activities
none_around e [] none = All-nil _
none_around e (a ∷ activities) none =
    elim (is_end_of e a) as (λ b. is_end_of e a ≡ b → cond b (a ∷ filter (is_end_of e) activities) (filter (is_end_of e) activities) ≡ [] → All (λ c. is_end_of e c ≡ false) (a ∷ activities)) [
      | true ↦ λ is not. absurd (cc)
      | false ↦ λ is later. All-cons (λ c. is_end_of e c ≡ false) a activities is (none_around e activities later)
    ] refl none

still_event : (e n : ℕ) (events : List Event) → (n == e) ≡ false → IsTrue (is_some (with_number number n events)) → IsTrue (is_some (with_number number n (take_out number e events)))
still_event e n events apart is = rw (with_number-take_out number n e events, apart) is

pub dropped_event : (I : Network) (e : ℕ) → IsNetwork I → filter (is_end_of e) I.activities ≡ [] → IsNetwork (effect I (DropEvent e))
dropped_event I e net none = record {
  period_low = net.period_low;
  period_high = net.period_high;
  events_rise = increasing_from_rises number _ (Rises-take_out number e I.events (Rises-from_increasing number I.events net.events_rise));
  events_within = All-take_out number (IsEvent I.period) e I.events net.events_within;
  few_events = omega (arith, length-take_out number e I.events, net.few_events);
  activities_rise = net.activities_rise;
  activities_within = net.activities_within;
  few_activities = net.few_activities;
  ends = λ k d within.
      let a = slice_index_or I.activities k d in
      let apart = or_parts (a.from == e) (a.to == e) (none_around e I.activities none k d within) in
      let has = net.ends k d within in
      record { from = still_event e a.from I.events apart.0 has.from; to = still_event e a.to I.events apart.1 has.to };
}

rewindow : Option Interval → Event → Event
rewindow window x = record x { window = window }

pub rewindowed_event : (I : Network) (e : ℕ) (window : Option Interval) → IsNetwork I → IfSome window (IsWindow I.period) → IsNetwork (rewindowed I e window)
unfolding rewindow
rewindowed_event I e window net within = record {
  period_low = net.period_low;
  period_high = net.period_high;
  events_rise = increasing_from_rises number _ (Rises-change_in number e (rewindow window) (λ x. refl) I.events (Rises-from_increasing number I.events net.events_rise));
  events_within = All-change_in number (IsEvent I.period) e (rewindow window) I.events (λ x is. record { number = is.number; window = within }) net.events_within;
  few_events = omega (arith, length-change_in number e (rewindow window) I.events, net.few_events);
  activities_rise = net.activities_rise;
  activities_within = net.activities_within;
  few_activities = net.few_activities;
  ends = All-weaker (HasEnds I.events) (HasEnds (change_in number e (rewindow window) I.events)) (HasEnds-kept I.events (change_in number e (rewindow window) I.events) (λ n is. rw (with_number-change_in number n e (rewindow window) (λ x. refl) I.events) (elim (with_number number n I.events) as (λ o. is_some o ≡ true → is_some (option_map (λ x. cond (number x == e) (rewindow window x) x) o) ≡ true) [ None ↦ λ not. not | Some x ↦ λ _. refl ] is))) I.activities net.ends;
}

pub added_activity : (I : Network) (a : Activity) → IsNetwork I → IsActivity a → HasEnds I.events a → with_number id_of a.id I.activities ≡ None → length I.activities < max_activities I.period → IsNetwork (effect I (AddActivity a))
added_activity I a net is has absent few = record {
  period_low = net.period_low;
  period_high = net.period_high;
  events_rise = net.events_rise;
  events_within = net.events_within;
  few_events = net.few_events;
  activities_rise = increasing_from_rises id_of _ (Rises-put_in id_of a I.activities (Rises-from_increasing id_of I.activities net.activities_rise));
  activities_within = All-put_in id_of IsActivity a I.activities is net.activities_within;
  few_activities = omega (arith, length-put_in id_of a I.activities absent, few);
  ends = All-put_in id_of (HasEnds I.events) a I.activities has net.ends;
}

pub dropped_activity : (I : Network) (n : ℕ) → IsNetwork I → IsNetwork (effect I (DropActivity n))
dropped_activity I n net = record {
  period_low = net.period_low;
  period_high = net.period_high;
  events_rise = net.events_rise;
  events_within = net.events_within;
  few_events = net.few_events;
  activities_rise = increasing_from_rises id_of _ (Rises-take_out id_of n I.activities (Rises-from_increasing id_of I.activities net.activities_rise));
  activities_within = All-take_out id_of IsActivity n I.activities net.activities_within;
  few_activities = omega (arith, length-take_out id_of n I.activities, net.few_activities);
  ends = All-take_out id_of (HasEnds I.events) n I.activities net.ends;
}

pub changed_activity : (I : Network) (n : ℕ) (change : Activity → Activity) → ((a : Activity) → (change a).id ≡ a.id) → ((a : Activity) → IsActivity a → IsActivity (change a)) → ((a : Activity) → HasEnds I.events a → HasEnds I.events (change a)) → IsNetwork I → IsNetwork (changed I n change)
changed_activity I n change keeps within ends net = record {
  period_low = net.period_low;
  period_high = net.period_high;
  events_rise = net.events_rise;
  events_within = net.events_within;
  few_events = net.few_events;
  activities_rise = increasing_from_rises id_of _ (Rises-change_in id_of n change keeps I.activities (Rises-from_increasing id_of I.activities net.activities_rise));
  activities_within = All-change_in id_of IsActivity n change I.activities within net.activities_within;
  few_activities = omega (arith, length-change_in id_of n change I.activities, net.few_activities);
  ends = All-change_in id_of (HasEnds I.events) n change I.activities ends net.ends;
}

-- ---- what the stored facts say, in the form that the laws take

pub on_ok : {E P : Type 0} (r : Result (Unit {0}) E) → false ≡ is_err r → OnOk r P → P
on_ok (Ok x) is ok = ok
on_ok (Err e) is ok = absurd (cc)

pub on_err : {E P : Type 0} (r : Result (Unit {0}) E) → true ≡ is_err r → OnErr r P → P
on_err (Ok x) is err = absurd (cc)
on_err (Err e) is err = err

pub none_is : {X : Type 0} (o : Option X) → is_none o ≡ true → o ≡ None
none_is None is = refl
none_is (Some x) is = absurd (cc)

pub is_none-from : {X : Type 0} (o : Option X) (b : Bool) → is_some o ≡ b → is_none o ≡ not b
is_none-from None b is = ap not is
is_none-from (Some x) b is = ap not is

pub find-none : (e : ℕ) (activities : List Activity) → option_map id_of (find (is_end_of e) activities) ≡ None → filter (is_end_of e) activities ≡ []
find-none e [] none = refl
find-none e (a ∷ activities) none =
    elim (is_end_of e a) as (λ b. option_map id_of (cond b (Some a) (find (is_end_of e) activities)) ≡ None → cond b (a ∷ filter (is_end_of e) activities) (filter (is_end_of e) activities) ≡ []) [
      | true ↦ λ not. absurd (cc)
      | false ↦ λ later. find-none e activities later
    ] none

pub find-first : (e : ℕ) (activities : List Activity) (a : Activity) (rest : List Activity) → filter (is_end_of e) activities ≡ a ∷ rest → find (is_end_of e) activities ≡ Some a
find-first e [] a rest first = absurd (cc)
find-first e (b ∷ activities) a rest first =
    elim (is_end_of e b) as (λ t. cond t (b ∷ filter (is_end_of e) activities) (filter (is_end_of e) activities) ≡ a ∷ rest → cond t (Some b) (find (is_end_of e) activities) ≡ Some a) [
      | true ↦ λ here. cc
      | false ↦ λ later. find-first e activities a rest later
    ] first

pub find-empty : (e : ℕ) (activities : List Activity) → filter (is_end_of e) activities ≡ [] → find (is_end_of e) activities ≡ None
find-empty e [] none = refl
find-empty e (a ∷ activities) none =
    elim (is_end_of e a) as (λ b. cond b (a ∷ filter (is_end_of e) activities) (filter (is_end_of e) activities) ≡ [] → cond b (Some a) (find (is_end_of e) activities) ≡ None) [
      | true ↦ λ not. absurd (cc)
      | false ↦ λ later. find-empty e activities later
    ] none

-- an event that is put in the place of the one of its number has another window
pub rewindowed-events : (e : ℕ) (window : Option Interval) (events : List Event) → change_in number e (λ _. record { id = e; window = window }) events ≡ change_in number e (λ x. record x { window = window }) events
rewindowed-events e window [] = refl
rewindowed-events e window (x ∷ events) =
    elim (number x == e) as (λ b. (number x == e) ≡ b → cond b (record { id = e; window = window }) x ∷ change_in number e (λ _. record { id = e; window = window }) events ≡ cond b (record x { window = window }) x ∷ change_in number e (λ y. record y { window = window }) events) [
      | true ↦ λ same. let at : x.id ≡ e = eqb-true x.id e same in rw (rewindowed-events e window events, at) refl
      | false ↦ λ apart. rw (rewindowed-events e window events) refl
    ] refl

module _ (activities : List Activity) (m : ℕ) (a : Activity) (is : with_number id_of m activities ≡ Some a) where
  its : a.id ≡ m
  its = number-with_number id_of m activities a is

  -- an activity in the place of the one of its number is that one changed
  pub changed-activities : (change : Activity → Activity) → IsStrictlyIncreasing (map id_of activities) → change_in id_of a.id (λ _. change a) activities ≡ change_in id_of m change activities
  changed-activities change rises =
      ap (λ n. change_in id_of n (λ _. change a) activities) its ∙ change_in-with_number id_of m change activities a (Rises-from_increasing id_of activities rises) is
