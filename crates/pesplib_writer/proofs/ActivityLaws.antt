-- The rows of activities, taken one after another.
use Rattle.std.proofs.Common.{◌≡◌, ℕ, ◌+◌, ◌<◌, ◌≤◌, ◌==◌, ◌||◌, Bool, true, false, cond, nat_lt, List, [], ◌∷◌, ◌++◌, find, map, length, Some, None, Ok, is_some, All, refl, sym, ap, subst, ◌∙◌, arith, append_assoc, length-append}
use Rattle.std.proofs.Math.Path.{fun_ext}
use Rattle.std.proofs.lemmas.Bool.{eqb-true, le-ltb, lt-leb, or_right}
use Rattle.std.proofs.lemmas.List.{append-nil}
use Rattle.std.proofs.lemmas.List.Elements.{All-head, All-tail}
use Rattle.pesp_base.specs.declared.activity.Activity.{Activity}
use Rattle.pesp_base.specs.Limits.{max_activities, max_events}
use Rattle.pesp_base.specs.Numbered.{with_number}
use Rattle.pesp_instance.specs.declared.event.Event.{Event}
use Rattle.pesp_instance.specs.declared.edit.Edit.TheVariants.{AddActivity, AddEvent}
use Rattle.pesp_instance.specs.Edited.{effect}
use Rattle.pesp_instance.specs.Network.{Network, is_end_of, new_event}
use Rattle.pesp_instance.proofs.Rising.{Rises, length-filter_le}
use Rattle.pesplib_reader.specs.Reading.{activity_faults_after, activity_taken, instance_faults, with_activity, with_activity_row, with_ends, with_event}
use Rattle.pesplib_reader.specs.Rows.{activity_faults, activity_in}
use Rattle.pesplib_reader.specs.Taking.{at_place, on_ok, row_taken, taken}
use Rattle.pesplib_reader.proofs.InstanceLemmas.{taken_whole}
use Rattle.pesplib_reader.proofs.TakingLemmas.{good_row}
use Rattle.pesplib_writer.specs.Texts.{activity_fields}
use Rattle.pesp_base.proofs.Tests.{or_alone}
use Rattle.pesplib_writer.proofs.EndLaws.{kept, or_at, put_in-kept, with_number-failed, with_number-passed}
use Rattle.pesplib_writer.proofs.FieldLaws.{IsWithin, activity_back, activity_is_row, activity_stands}
use Rattle.pesplib_writer.proofs.OrderLaws.{IsBelow, below_after, put_in-below, with_number-below}
use Rattle.pesplib_writer.proofs.RecordLaws.{AreRows}
use Rattle.pesplib_writer.proofs.RowLaws.{numbered}
use Rattle.pesp_instance.proofs.Numbers.{activity_number, event_number}

-- the number of an event, and of an activity
-- whether a number is an end of an activity
abbrev pub is_used : List Activity → ℕ → Bool
is_used activities n = is_some (find (is_end_of n) activities)

-- ---- tests for ends

-- one number more that passes already changes nothing
passes_already : (test : ℕ → Bool) (e n : ℕ) → test e ≡ true → test n ≡ or_at test e n
passes_already test e n passes =
    elim (e == n) as (λ b. (e == n) ≡ b → test n ≡ (test n || b)) [
      | true ↦ λ same. ap test (sym (eqb-true e n same)) ∙ passes ∙ sym (or_right (test n) true refl)
      | false ↦ λ _. or_alone (test n)
    ] refl

is_some_if : (a : Activity) (p q : Bool) → ((false || p) || q) ≡ is_some (cond (p || q) (Some a) None)
is_some_if a true q = refl
is_some_if a false true = refl
is_some_if a false false = refl

-- the ends of one activity more
used_more : (done : List Activity) (a : Activity) (n : ℕ) → or_at (or_at (is_used done) a.from) a.to n ≡ is_used (done ++ (a ∷ [])) n
used_more [] a n = is_some_if a (a.from == n) (a.to == n)
used_more (b ∷ done) a n =
    elim (is_end_of n b) as (λ t. ((is_some (cond t (Some b) (find (is_end_of n) done)) || (a.from == n)) || (a.to == n)) ≡ is_some (cond t (Some b) (find (is_end_of n) (done ++ (a ∷ []))))) [
      | true ↦ refl
      | false ↦ used_more done a n
    ]

-- ---- an instance with the events that pass a test

module _ (period : ℕ) (events : List Event) (rises : Rises event_number events) where
  -- the instance of these activities, and of the events that pass a test
  abbrev holding : (ℕ → Bool) → List Activity → Network
  holding test done = record { period = period; events = kept event_number test events; activities = done }

  same_test : (f g : ℕ → Bool) (done : List Activity) → ((n : ℕ) → f n ≡ g n) → holding f done ≡ holding g done
  same_test f g done same = ap (λ test. holding test done) (fun_ext same)

  -- the event is there, without a window
  abbrev pub IsBare : ℕ → Type 0
  IsBare e = with_number event_number e events ≡ Some (new_event e)

  -- one event more, which may have passed already
  one_end : (test : ℕ → Bool) (done : List Activity) (e : ℕ) → IsBare e → with_event (holding test done) e ≡ holding (or_at test e) done
  one_end test done e is =
      let before : Network = holding test done in
      elim (test e) as (λ b. test e ≡ b → with_event (holding test done) e ≡ holding (or_at test e) done) [
        | true ↦ λ passes.
            ap (λ b. cond b before (effect before (AddEvent e))) (with_number-passed event_number test e events passes (ap is_some is))
            ∙ same_test test (or_at test e) done (λ n. passes_already test e n passes)
        | false ↦ λ fails.
            ap (λ b. cond b before (effect before (AddEvent e))) (ap is_some (with_number-failed event_number test e events fails))
            ∙ ap (λ es. record { period = period; events = es; activities = done }) (put_in-kept event_number test (new_event e) fails events rises is)
      ] refl

  -- the instance of these activities, and of the events that are their ends
  abbrev pub built : List Activity → Network
  built done = holding (is_used done) done

  -- the activity can be written, and its ends are there
  pub record IsTakable (a : Activity) : Type 0 where
    pub within : IsWithin a
    pub from : IsBare a.from
    pub to : IsBare a.to

  module _ (done : List Activity) (a : Activity) (is : IsTakable a) (after : IsBelow activity_number a.id done) where
    -- the instance with both ends, and then with the activity
    with_both : with_ends (built done) a ≡ holding (is_used (done ++ (a ∷ []))) done
    with_both =
        ap (λ J. with_event J a.to) (one_end (is_used done) done a.from is.from)
        ∙ one_end (or_at (is_used done) a.from) done a.to is.to
        ∙ same_test (or_at (or_at (is_used done) a.from) a.to) (is_used (done ++ (a ∷ []))) done (used_more done a)

    with_one_more : with_activity (built done) a ≡ built (done ++ (a ∷ []))
    with_one_more =
        ap (λ J. effect J (AddActivity a)) with_both
        ∙ ap (λ list. record { period = period; events = kept event_number (is_used (done ++ (a ∷ []))) events; activities = list }) (put_in-below activity_number a done after)

    module _ (few_events : length events ≤ max_events period) (few : length done < max_activities period) where
      enough : nat_lt (max_events period) (length (with_ends (built done) a).events) ≡ false
      enough =
          ap (λ J. nat_lt (max_events period) (length J.events)) with_both
          ∙ le-ltb (max_events period) (length (kept event_number (is_used (done ++ (a ∷ []))) events)) (omega (arith, few_events, length-filter_le (λ (e : Event). is_used (done ++ (a ∷ [])) e.id) events))

      -- an activity of a greater number than all before it
      next_taken : activity_taken (built done) a ≡ Ok (built (done ++ (a ∷ [])))
      next_taken =
          taken_whole (built done) a (ap is_some (with_number-below activity_number a.id done after)) enough (lt-leb (max_activities period) (length done) few)
          ∙ ap (λ J. Ok J) with_one_more

      -- the row of an activity of a greater number than all before it
      next_row : row_taken activity_faults_after with_activity_row (built done) (activity_fields a) ≡ Ok (built (done ++ (a ∷ [])))
      next_row =
          good_row activity_faults (λ J fields. instance_faults J (activity_in fields)) with_activity_row (built done) (activity_fields a) (activity_fields a) a refl a (sym (activity_stands a is.within a))
          ∙ ap (activity_taken (built done)) (activity_back a is.within)
          ∙ next_taken

  -- the fields of these activities are rows
  pub activities_are_rows : (activities : List Activity) → All IsTakable activities → AreRows (map activity_fields activities)
  activities_are_rows [] all = tt
  activities_are_rows (a ∷ activities) all =
      (activity_is_row a (All-head IsTakable a activities all).within, activities_are_rows activities (All-tail IsTakable a activities all))

  -- the rows of ascending activities stand for these activities and their ends
  pub activities_taken : (done todo : List Activity) (place : ℕ) → All IsTakable todo → Rises activity_number (done ++ todo) → length events ≤ max_events period → length (done ++ todo) ≤ max_activities period
      → taken activity_faults_after with_activity_row (built done) (numbered place (map activity_fields todo)) ≡ Ok (built (done ++ todo))
  activities_taken done [] place all rising few_events few = ap (λ list. Ok (built list)) (sym (append-nil done))
  activities_taken done (a ∷ todo) place all rising few_events few =
      let joined = append_assoc done (a ∷ []) todo in
      let room : length done < max_activities period = omega (arith, few, length-append done (a ∷ todo)) in
      ap (λ o. on_ok (λ J. taken activity_faults_after with_activity_row J (numbered (place + 1) (map activity_fields todo))) (at_place place o)) (next_row done a (All-head IsTakable a todo all) (below_after activity_number done todo a rising) few_events room)
      ∙ activities_taken (done ++ (a ∷ [])) todo (place + 1) (All-tail IsTakable a todo all) (subst (Rises activity_number) (sym joined) rising) few_events (subst (λ list. length list ≤ max_activities period) (sym joined) few)
      ∙ ap (λ list. Ok (built list)) joined
