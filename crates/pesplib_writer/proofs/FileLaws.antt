-- What is written of activities and of times reads back.
use Rattle.std.proofs.Common.{◌≡◌, ℕ, ◌≤◌, ◌==◌, Bool, true, false, cond, List, [], ◌∷◌, map, length, Some, Ok, is_some, All, IsTrue, refl, sym, ap, subst, ◌∙◌, arith}
use Rattle.std.proofs.lemmas.Bool.{eqb-true}
use Rattle.std.proofs.lemmas.List.{length-map}
use Rattle.std.proofs.lemmas.List.Elements.{All-head, All-tail}
use Rattle.std.specs.List.Sorted.{IsStrictlyIncreasing}
use Rattle.std.specs.Map.{keys_of}
use Rattle.pesp_base.specs.declared.activity.Activity.{Activity}
use Rattle.pesp_base.specs.Limits.{greatest_period}
use Rattle.pesp_base.specs.Limits.{max_events}
use Rattle.pesp_base.specs.Numbered.{with_number}
use Rattle.pesp_base.specs.Texts.{as_lines}
use Rattle.pesp_instance.specs.declared.event.Event.{Event}
use Rattle.pesp_instance.specs.Network.{Network, IsNetwork, new_event}
use Rattle.pesp_instance.proofs.Rising.{Rises, Rises-from_increasing}
use Rattle.pesp_tension.specs.Timetables.{IsTimetable, Times, timed_events}
use Rattle.pesplib_reader.specs.Reading.{activities_read, activity_faults_after, time_faults_after, times_read, with_activity_row, with_time_row}
use Rattle.pesplib_reader.specs.Records.{rows_of}
use Rattle.pesplib_reader.specs.Taking.{taken}
use Rattle.pesplib_writer.specs.Texts.{AreUsed, activities_text, activity_fields, activity_row, row_line, time_row, times_text, without_windows, without_window}
use Rattle.pesplib_writer.proofs.ActivityLaws.{IsTakable, activities_are_rows, activities_taken, built, is_used}
use Rattle.pesplib_writer.proofs.EndLaws.{kept}
use Rattle.pesplib_writer.proofs.FieldLaws.{event_within, time_fields}
use Rattle.pesplib_writer.proofs.OrderLaws.{key}
use Rattle.pesplib_writer.proofs.RowLaws.{numbered, rows_stand}
use Rattle.pesplib_writer.proofs.TimeLaws.{timed, times_are, times_are_rows, times_taken}
use Rattle.pesp_instance.proofs.Numbers.{activity_number, event_number}

-- ---- events without their windows

-- they keep their numbers
same_numbers : (events : List Event) → map event_number (map without_window events) ≡ map event_number events
same_numbers [] = refl
same_numbers (e ∷ events) = ap (λ ns. e.id ∷ ns) (same_numbers events)

-- each is found under its number
bare_found : (n : ℕ) (events : List Event) → IsTrue (is_some (with_number event_number n events)) → with_number event_number n (map without_window events) ≡ Some (new_event n)
bare_found n [] is = absurd (cc is)
bare_found n (e ∷ events) is =
    elim (e.id == n) as (λ b. (e.id == n) ≡ b → is_some (cond b (Some e) (with_number event_number n events)) ≡ true → cond b (Some (without_window e)) (with_number event_number n (map without_window events)) ≡ Some (new_event n)) [
      | true ↦ λ same _. ap (λ m. Some (new_event m)) (eqb-true e.id n same)
      | false ↦ λ _ later. bare_found n events later
    ] refl is

-- where each passes a test, all are kept
all_kept : (test : ℕ → Bool) (events : List Event) → All (λ e. IsTrue (test e.id)) events → kept event_number test (map without_window events) ≡ map without_window events
all_kept test [] all = refl
all_kept test (e ∷ events) all =
    let passes : test e.id ≡ true = All-head (λ (x : Event). IsTrue (test x.id)) e events all in
    rw passes (ap (λ es. without_window e ∷ es) (all_kept test events (All-tail (λ (x : Event). IsTrue (test x.id)) e events all)))

-- without an activity, none is an end
none_kept : (events : List Event) → kept event_number (is_used []) events ≡ []
none_kept [] = refl
none_kept (e ∷ events) = none_kept events

-- ---- the text of activities

module _ (I : Network) (net : IsNetwork I) where
  abbrev events : List Event
  events = map without_window I.events

  -- they still rise
  rising : Rises event_number events
  rising = Rises-from_increasing event_number events (subst IsStrictlyIncreasing (sym (same_numbers I.events)) net.events_rise)

  -- each activity can be taken, and its ends are there
  takable : All (IsTakable I.period events rising) I.activities
  takable = λ k d h.
      let ends = net.ends k d h in
      record {
        within = record { activity = net.activities_within k d h; from = event_within I.period _ I.events net.events_within ends.from; to = event_within I.period _ I.events net.events_within ends.to };
        from = bare_found _ I.events ends.from;
        to = bare_found _ I.events ends.to;
      }

  activity_lines : (activities : List Activity) → map activity_row activities ≡ map row_line (map activity_fields activities)
  activity_lines [] = refl
  activity_lines (a ∷ activities) = ap (λ ls. activity_row a ∷ ls) (activity_lines activities)

  activity_rows : rows_of (activities_text I) ≡ numbered 1 (map activity_fields I.activities)
  activity_rows =
      ap (λ ls. rows_of (as_lines ls)) (activity_lines I.activities)
      ∙ rows_stand (map activity_fields I.activities) (activities_are_rows I.period events rising I.activities takable)

  few_events : length events ≤ max_events I.period
  few_events = omega (arith, net.few_events, length-map I.events without_window)

  windowless_back : AreUsed I → activities_read I.period (activities_text I) ≡ Ok (without_windows I)
  windowless_back used =
      ap (λ es. taken activity_faults_after with_activity_row (record { period = I.period; events = es; activities = [] }) (rows_of (activities_text I))) (sym (none_kept events))
      ∙ ap (taken activity_faults_after with_activity_row (built I.period events rising [])) activity_rows
      ∙ activities_taken I.period events rising [] I.activities 1 takable (Rises-from_increasing activity_number I.activities net.activities_rise) few_events net.few_activities
      ∙ ap (λ es. Ok (record { period = I.period; events = es; activities = I.activities })) (all_kept (is_used I.activities) I.events used)

-- what is written of the activities of an instance reads back as the instance without its windows, where each event is an end of an activity
pub activities_stand : (I : Network) → IsNetwork I → AreUsed I → activities_read I.period (activities_text I) ≡ Ok (without_windows I)
activities_stand I net used = windowless_back I net used

-- ---- the text of a timetable

same_keys : (entries : List (ℕ × ℕ)) → keys_of entries ≡ map key entries
same_keys [] = refl
same_keys (x ∷ entries) = ap (λ ks. x.0 ∷ ks) (same_keys entries)

time_lines : (entries : List (ℕ × ℕ)) → map time_row entries ≡ map row_line (map time_fields entries)
time_lines [] = refl
time_lines (x ∷ entries) = ap (λ ls. time_row x ∷ ls) (time_lines entries)

-- what is written of a timetable reads back as the timetable
pub times_stand : (m : Times) → m.period ≤ greatest_period → IsStrictlyIncreasing (timed_events m) → IsTimetable m → times_read m.period (times_text m) ≡ Ok m
times_stand m le rises is =
    let all = times_are m.period m.entries le is.numbers is.times in
    let rising = Rises-from_increasing key m.entries (subst IsStrictlyIncreasing (same_keys m.entries) rises) in
    ap (λ ls. times_read m.period (as_lines ls)) (time_lines m.entries)
    ∙ ap (taken time_faults_after with_time_row (timed m.period [])) (rows_stand (map time_fields m.entries) (times_are_rows m.period m.entries all))
    ∙ times_taken m.period [] m.entries 1 all rising is.few
