-- The rows of a timetable, taken one after another.
use Rattle.std.proofs.Common.{◌≡◌, ℕ, ◌+◌, ◌<◌, ◌≤◌, Bool, false, nat_le, List, [], ◌∷◌, ◌++◌, map, length, pos, Ok, is_some, All, refl, sym, ap, subst, ◌∙◌, arith, append_assoc, length-append}
use Rattle.std.proofs.Math.Nat.{mod-eq_of_lt}
use Rattle.std.proofs.lemmas.Bool.{lt-leb}
use Rattle.std.proofs.lemmas.List.{append-nil}
use Rattle.std.proofs.lemmas.List.Elements.{All-head, All-tail}
use Rattle.std.specs.Map.{keys_of, values_of}
use Rattle.pesp_base.specs.Limits.{greatest_number, greatest_period, max_events}
use Rattle.pesp_base.specs.Refusals.{unless_refused, when}
use Rattle.pesp_base.specs.Tensions.{residue}
use Rattle.pesp_instance.proofs.Rising.{Rises}
use Rattle.pesp_tension.specs.Timetables.{Times, time_of}
use Rattle.pesplib_reader.specs.declared.fault.FaultKind.TheVariants as fault
use Rattle.pesplib_reader.specs.Reading.{event_faults, event_taken, time_faults_after, with_time_row}
use Rattle.pesplib_reader.specs.Rows.{field, natural, time_faults, value}
use Rattle.pesplib_reader.specs.Taking.{at_place, on_ok, row_taken, taken}
use Rattle.pesplib_reader.proofs.TakingLemmas.{good_row}
use Rattle.pesplib_writer.proofs.FieldLaws.{IsTime, event_back, time_back, time_fields, time_is_row, time_stands}
use Rattle.pesplib_writer.proofs.OrderLaws.{IsBelow, below_after, insert_entry-below, key, lookup-below}
use Rattle.pesplib_writer.proofs.RecordLaws.{AreRows}
use Rattle.pesplib_writer.proofs.RowLaws.{numbered}

module _ (period : ℕ) where
  -- the timetable with these entries
  abbrev pub timed : List (ℕ × ℕ) → Times
  timed entries = record { period = period; entries = entries }

  -- each entry is within the limits of a file, and its time below the period
  abbrev pub AreTimes : List (ℕ × ℕ) → Type 0
  AreTimes [] = Unit {0}
  AreTimes (x ∷ entries) = IsTime x × (x.1 < period) × AreTimes entries

  -- the entries of a timetable are such entries
  pub times_are : (entries : List (ℕ × ℕ)) → period ≤ greatest_period → All (λ e. e ≤ greatest_number) (keys_of entries) → All (λ t. t < period) (values_of entries) → AreTimes entries
  times_are [] le numbers times = tt
  times_are (x ∷ entries) le numbers times =
      let number : x.0 ≤ greatest_number = All-head (λ e. e ≤ greatest_number) x.0 (keys_of entries) numbers in
      let below : x.1 < period = All-head (λ t. t < period) x.1 (values_of entries) times in (
        record { event = number; time = omega (arith, below, le) },
        below,
        times_are entries le (All-tail (λ e. e ≤ greatest_number) x.0 (keys_of entries) numbers) (All-tail (λ t. t < period) x.1 (values_of entries) times),
      )

  -- their fields are rows
  pub times_are_rows : (entries : List (ℕ × ℕ)) → AreTimes entries → AreRows (map time_fields entries)
  times_are_rows [] all = tt
  times_are_rows (x ∷ entries) all = (time_is_row x all.0, times_are_rows entries all.2)

  -- a time below the period is its own remainder
  residue_kept : (t : ℕ) → t < period → residue period (pos t) ≡ t
  residue_kept t below = mod-eq_of_lt below

  module _ (done : List (ℕ × ℕ)) (x : ℕ × ℕ) (after : IsBelow key x.0 done) (few : length done < max_events period) where
    no_faults : (p q : Bool) (m : Times) → p ≡ false → q ≡ false → unless_refused (when p fault.DuplicateEvent ∷ when q fault.TooManyEvents ∷ []) m ≡ Ok m
    no_faults p q m e f = rw (e, f) refl

    -- a greater event than all before it
    next_taken : x.1 < period → event_taken (timed done) x.0 (pos x.1) ≡ Ok (timed (done ++ (x ∷ [])))
    next_taken below =
        no_faults (is_some (time_of (timed done) x.0)) (nat_le (max_events period) (length done)) _ (ap is_some (lookup-below x.0 done after)) (lt-leb (max_events period) (length done) few)
        ∙ ap (λ es. Ok (timed es)) (insert_entry-below x.0 (residue period (pos x.1)) done after)
        ∙ ap (λ t. Ok (timed (done ++ ((x.0, t) ∷ [])))) (residue_kept x.1 below)

    -- the row of a greater event than all before it
    next_row : IsTime x → x.1 < period → row_taken time_faults_after with_time_row (timed done) (time_fields x) ≡ Ok (timed (done ++ (x ∷ [])))
    next_row is below =
        good_row time_faults (λ m fields. event_faults m (natural (field fields 1))) with_time_row (timed done) (time_fields x) (time_fields x) x refl x (sym (time_stands x is x))
        ∙ ap (λ e. event_taken (timed done) e (value (field (time_fields x) 2))) (event_back x is)
        ∙ ap (λ z. event_taken (timed done) x.0 z) (time_back x is)
        ∙ next_taken below

  -- the rows of ascending entries stand for these entries
  pub times_taken : (done todo : List (ℕ × ℕ)) (place : ℕ) → AreTimes todo → Rises key (done ++ todo) → length (done ++ todo) ≤ max_events period
      → taken time_faults_after with_time_row (timed done) (numbered place (map time_fields todo)) ≡ Ok (timed (done ++ todo))
  times_taken done [] place all rises few = ap (λ es. Ok (timed es)) (sym (append-nil done))
  times_taken done (x ∷ todo) place all rises few =
      let joined = append_assoc done (x ∷ []) todo in
      let room : length done < max_events period = omega (arith, few, length-append done (x ∷ todo)) in
      ap (λ o. on_ok (λ m. taken time_faults_after with_time_row m (numbered (place + 1) (map time_fields todo))) (at_place place o)) (next_row done x (below_after key done todo x rises) room all.0 all.1)
      ∙ times_taken (done ++ (x ∷ [])) todo (place + 1) all.2 (subst (Rises key) (sym joined) rises) (subst (λ es. length es ≤ max_events period) (sym joined) few)
      ∙ ap (λ es. Ok (timed es)) joined
