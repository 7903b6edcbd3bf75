-- Rows without faults by themselves, whose activities are gathered and put in at once.
use Rattle.std.proofs.Common.{◌≡◌, ℕ, ◌≤◌, cond, true, false, List, [], ◌∷◌, ◌++◌, length, Option, Some, None, Result, Ok, Err, IfOk, IfErr, is_some, if◌then◌else◌, refl, sym, ap, subst, ◌∙◌, arith}
use Rattle.std.proofs.lemmas.Bool.{le-ltb, lt-leb}
use Rattle.std.specs.Option.{MatchOption}
use Rattle.std.specs.Result.{result_err, result_ok}
use Rattle.pesp_base.specs.declared.activity.Activity.{Activity}
use Rattle.pesp_base.specs.Limits.{max_activities, max_events}
use Rattle.pesp_base.specs.Numbered.{put_in, with_number}
use Rattle.pesp_base.specs.Refusals.{unless_refused}
use Rattle.pesp_instance.specs.declared.event.Event.{Event}
use Rattle.pesp_instance.specs.declared.edit.Edit.TheVariants.{AddEvent}
use Rattle.pesp_instance.specs.Edited.{effect, empty_network}
use Rattle.pesp_instance.specs.Filled.{ArePut, IsFilled}
use Rattle.pesp_instance.specs.Network.{Network, has_event, new_event}
use Rattle.pesp_instance.proofs.Made.{length-ArePut}
use Rattle.pesp_instance.proofs.Rising.{length-put_in}
use Rattle.pesplib_reader.specs.declared.records.Records.{Records}
use Rattle.pesplib_reader.specs.Left.{IsReading, count_of, rows_left}
use Rattle.pesplib_reader.specs.Reading.{activity_faults_after, activity_taken, instance_faults, with_activity, with_activity_row, with_ends, with_event}
use Rattle.pesplib_reader.specs.Records.{Row, records_of, rows_of}
use Rattle.pesplib_reader.specs.Rows.{activity_faults, activity_in}
use Rattle.pesplib_reader.specs.Taking.{at_place, on_ok, row_taken, taken}
use Rattle.pesplib_reader.proofs.InstanceLemmas.{taken_whole}
use Rattle.pesplib_reader.proofs.TakingLemmas.{IsReadTo, good_row, read_to, value_is}

-- ---- the events that the ends of activities are

abbrev event_in : List Event → ℕ → List Event
event_in events e = if is_some (with_number (λ x. x.id) e events) then events else put_in (λ x. x.id) (new_event e) events

abbrev ends_in : List Event → Activity → List Event
ends_in events a = event_in (event_in events a.from) a.to

abbrev pub all_ends : List Event → List Activity → List Event
all_ends events [] = events
all_ends events (a ∷ added) = all_ends (ends_in events a) added

all_ends-append : (events : List Event) (added : List Activity) (a : Activity) → all_ends events (added ++ a ∷ []) ≡ ends_in (all_ends events added) a
all_ends-append events [] a = refl
all_ends-append events (b ∷ added) a = all_ends-append (ends_in events b) added a

with_event-is : (I : Network) (e : ℕ) → with_event I e ≡ record I { events = event_in I.events e }
with_event-is I e = elim (has_event I e) as (λ t. cond t I (effect I (AddEvent e)) ≡ record I { events = cond t I.events (put_in (λ x. x.id) (new_event e) I.events) }) [ true ↦ refl | false ↦ refl ]

with_ends-is : (I : Network) (a : Activity) → with_ends I a ≡ record I { events = ends_in I.events a }
with_ends-is I a = with_event-is (with_event I a.from) a.to ∙ ap (λ (J : Network). record J { events = event_in J.events a.to }) (with_event-is I a.from)

more_events : (events : List Event) (e : ℕ) → length events ≤ length (event_in events e)
more_events events e =
    elim (with_number (λ (x : Event). x.id) e events) as (λ o. with_number (λ (x : Event). x.id) e events ≡ o → length events ≤ length (cond (is_some o) events (put_in (λ x. x.id) (new_event e) events))) [
      | Some x ↦ λ is. omega arith
      | None ↦ λ is. omega (arith, length-put_in (λ (x : Event). x.id) (new_event e) events is)
    ] refl

more_ends : (events : List Event) (added : List Activity) → length events ≤ length (all_ends events added)
more_ends events [] = omega arith
more_ends events (a ∷ added) = omega (arith, more_ends (ends_in events a) added, more_events events a.from, more_events (event_in events a.from) a.to)

-- ---- rows that have no faults by themselves

abbrev pub AreGood : List Row → List Activity → Type 0
AreGood [] [] = Unit {0}
AreGood [] (a ∷ added) = ⊥
AreGood (r ∷ rows) [] = ⊥
AreGood (r ∷ rows) (a ∷ added) = (Ok a ≡ unless_refused (activity_faults r.fields) (activity_in r.fields)) × AreGood rows added

AreGood-append : (rows : List Row) (added : List Activity) (r : Row) (a : Activity) → AreGood rows added → Ok a ≡ unless_refused (activity_faults r.fields) (activity_in r.fields) → AreGood (rows ++ r ∷ []) (added ++ a ∷ [])
AreGood-append [] [] r a good is = (is, tt)
AreGood-append [] (b ∷ added) r a good is = absurd good
AreGood-append (q ∷ rows) [] r a good is = absurd good
AreGood-append (q ∷ rows) (b ∷ added) r a good is = (good.0, AreGood-append rows added r a good.1 is)

row_stands : (I : Network) (r : Row) (a : Activity) → Ok a ≡ unless_refused (activity_faults r.fields) (activity_in r.fields) → row_taken activity_faults_after with_activity_row I r.fields ≡ activity_taken I a
row_stands I r a is =
    good_row activity_faults (λ J fs. instance_faults J (activity_in fs)) with_activity_row I r.fields r.fields (activity_in r.fields) refl a is
    ∙ ap (activity_taken I) (sym (value_is (activity_faults r.fields) (activity_in r.fields) a is))

none_is : {X : Type 0} (o : Option X) → o ≡ None → is_some o ≡ false
none_is o is = ap is_some is

-- the instance of these events and activities
abbrev stored : ℕ → List Event → List Activity → Network
stored period events activities = record { period = period; events = events; activities = activities }

taken_all : (period : ℕ) (events : List Event) (before : List Activity) (rows : List Row) (added last : List Activity) → AreGood rows added → ArePut (λ a. a.id) before added last → length last ≤ max_activities period → length (all_ends events added) ≤ max_events period → taken activity_faults_after with_activity_row (stored period events before) rows ≡ Ok (stored period (all_ends events added) last)
taken_all period events before [] [] last good put few room = ap (λ as'. Ok (stored period events as')) (sym put)
taken_all period events before [] (a ∷ added) last good put few room = absurd good
taken_all period events before (r ∷ rows) [] last good put few room = absurd good
taken_all period events before (r ∷ rows) (a ∷ added) last good put few room =
    let I : Network = stored period events before in
    let ends = with_ends-is I a in
    let count : length (with_ends I a).events ≤ max_events period = rw ends (omega (arith, more_ends (ends_in events a) added, room)) in
    let least = lt-leb (max_activities period) (length before) (omega (arith, few, length-ArePut (λ (x : Activity). x.id) before (a ∷ added) last put)) in
    let whole = taken_whole I a (none_is _ put.0) (le-ltb (max_events period) (length (with_ends I a).events) count) least in
    let next : with_activity I a ≡ stored period (ends_in events a) (put_in (λ x. x.id) a before) = rw ends refl in
    ap (λ o. on_ok (λ J. taken activity_faults_after with_activity_row J rows) (at_place r.place o)) (row_stands I r a good.0 ∙ whole ∙ ap (λ (J : Network). Ok J) next)
    ∙ taken_all period (ends_in events a) (put_in (λ x. x.id) a before) rows added last good.1 put.1 few room

-- ---- the rows so far, their activities and the instance of the ends of these

abbrev pub gathered : ℕ → List Activity → Network
gathered period added = stored period (all_ends [] added) []

pub record IsGathered (period : ℕ) (front : List Row) (added : List Activity) (I : Network) : Type 0 where
  pub good : AreGood front added
  pub ends : I ≡ gathered period added

pub none_gathered : (period : ℕ) (I : Network) → I ≡ empty_network period → IsGathered period [] [] I
none_gathered period I is = record { good = tt; ends = is }

pub one_gathered : (period : ℕ) (front : List Row) (added more : List Activity) (I J : Network) (r : Row) (a : Activity) → IsGathered period front added I → Ok a ≡ unless_refused (activity_faults r.fields) (activity_in r.fields) → J ≡ with_ends I a → more ≡ added ++ a ∷ [] → IsGathered period (front ++ r ∷ []) more J
one_gathered period front added more I J r a so is same put =
    rw put (record {
      good = AreGood-append front added r a so.good is;
      ends = same ∙ ap (λ K. with_ends K a) so.ends ∙ with_ends-is (gathered period added) a ∙ ap (λ events. stored period events []) (sym (all_ends-append [] added a));
    })

-- the rows so far are taken where the activities of all of them are put in
taken_gathered : (period : ℕ) (front : List Row) (added : List Activity) (I J : Network) → IsGathered period front added I → IsFilled I added J → taken activity_faults_after with_activity_row (empty_network period) front ≡ Ok J
taken_gathered period front added I J so filled =
    let is : J ≡ stored period (all_ends [] added) J.activities = filled.kept ∙ ap (λ (K : Network). record K { activities = J.activities }) so.ends in
    let few : length J.activities ≤ max_activities period = subst (λ (K : Network). length J.activities ≤ max_activities K.period) is filled.network.few_activities in
    let room : length (all_ends [] added) ≤ max_events period = subst (λ (K : Network). length K.events ≤ max_events K.period) is filled.network.few_events in
    taken_all period [] [] front added J.activities so.good filled.put few room ∙ ap (λ (K : Network). Ok K) (sym is)

pub gathered_to : (period : ℕ) (bytes : List ℕ) (front : List Row) (added : List Activity) (I J : Network) (s : Records) → IsGathered period front added I → IsFilled I added J → IsReading s → count_of s ≡ length (records_of bytes) → front ++ rows_left s ≡ rows_of bytes → IsReadTo activity_faults_after with_activity_row (empty_network period) bytes J s
gathered_to period bytes front added I J s so filled reading count all =
    read_to activity_faults_after with_activity_row (empty_network period) bytes front J s reading count all (taken_gathered period front added I J so filled)

-- what holds of a value that came
pub at_value : {X E : Type 0} (P : X → Type 0) (r : Result X E) (v : X) → result_ok r ≡ Some v → IfOk r P → P v
at_value P (Ok x) v is holds = let same : x ≡ v = cc in subst P same holds
at_value P (Err e) v is holds = absurd (cc)

-- what holds of an error that came
pub at_error : {X E : Type 0} (P : E → Type 0) (r : Result X E) (e : E) → result_err r ≡ Some e → IfErr r P → P e
at_error P (Ok x) e is holds = absurd (cc)
at_error P (Err f) e is holds = let same : f ≡ e = cc in subst P same holds

pub filled_by : {E : Type 0} (I : Network) (added : List Activity) (r : Result (Option Network) E) (found : Option Network) (J : Network) → result_ok r ≡ Some found → found ≡ Some J → IfOk r (λ o. MatchOption o ((K : Network) → IsFilled I added K → ⊥) (IsFilled I added)) → IsFilled I added J
filled_by I added r found J is some filled =
    let both = at_value (λ o. MatchOption o ((K : Network) → IsFilled I added K → ⊥) (IsFilled I added)) r found is filled in
    subst (λ o. MatchOption o ((K : Network) → IsFilled I added K → ⊥) (IsFilled I added)) some both
