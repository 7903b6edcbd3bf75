-- What a file stands for has the period that it was read with.
use Rattle.std.proofs.Common.{◌≡◌, ℕ, List, [], ◌∷◌, fold, Option, Some, None, Result, Ok, Err, refl, sym, ap, ◌∙◌}
use Rattle.pesp_base.specs.Refusals.{unless_refused}
use Rattle.pesp_instance.specs.Network.{Network}
use Rattle.pesp_instance.specs.Edited.{effect, empty_network}
use Rattle.pesp_instance.specs.declared.edit.Edit.TheVariants.{Fix}
use Rattle.pesp_tension.specs.Timetables.{Times, no_times}
use Rattle.pesplib_reader.specs.declared.fault.FaultKind.{FaultKind}
use Rattle.pesplib_reader.specs.Records.{Row, rows_of}
use Rattle.pesplib_reader.specs.Rows.{activity_in}
use Rattle.pesplib_reader.specs.Taking.{at_place, on_ok, row_taken, taken}
use Rattle.pesplib_reader.specs.Reading.{activities_read, activity_faults_after, time_faults_after, times_read, with_activity_row, with_event, with_fixed, with_time_row}
use Rattle.pesplib_reader.proofs.InstanceLemmas.{event_period}

unless_refused_ok : {X : Type 0} (faults : List (Option FaultKind)) (x y : X) → unless_refused faults x ≡ Ok y → x ≡ y
unless_refused_ok [] x y e = cc
unless_refused_ok (None ∷ faults) x y e = unless_refused_ok faults x y e
unless_refused_ok (Some kind ∷ faults) x y e = absurd (cc)

module _ {X : Type 0} (faults : X → List (List ℕ) → List (Option FaultKind)) (add : X → List (List ℕ) → X) (period_of : X → ℕ) (keeps : (x : X) (fields : List (List ℕ)) → period_of (add x fields) ≡ period_of x) where
  step : (place : ℕ) (rows : List Row) (x : X) (fields : List (List ℕ)) (r : Result X FaultKind) → row_taken faults add x fields ≡ r
      → ((z : X) (y : X) → taken faults add z rows ≡ Ok y → period_of y ≡ period_of z)
      → (y : X) → on_ok (λ z. taken faults add z rows) (at_place place r) ≡ Ok y → period_of y ≡ period_of x
  step place rows x fields (Ok z) e rest y h =
      rest z y h ∙ sym (ap period_of (unless_refused_ok (faults x fields) (add x fields) z e)) ∙ keeps x fields
  step place rows x fields (Err kind) e rest y h = absurd (cc)

  taken_period : (rows : List Row) (x y : X) → taken faults add x rows ≡ Ok y → period_of y ≡ period_of x
  taken_period [] x y e = ap period_of (let same : x ≡ y = cc in sym same)
  taken_period (r ∷ rows) x y e = step r.place rows x r.fields (row_taken faults add x r.fields) refl (taken_period rows) y e

pub times_period : (period : ℕ) (bytes : List ℕ) (m : Times) → times_read period bytes ≡ Ok m → m.period ≡ period
times_period period bytes m e = taken_period time_faults_after with_time_row (λ (x : Times). x.period) (λ x fields. refl) (rows_of bytes) (no_times period) m e

pub activities_period : (period : ℕ) (bytes : List ℕ) (I : Network) → activities_read period bytes ≡ Ok I → I.period ≡ period
activities_period period bytes I e =
    taken_period activity_faults_after with_activity_row (λ (x : Network). x.period)
    (λ x fields. event_period (with_event x (activity_in fields).from) (activity_in fields).to ∙ event_period x (activity_in fields).from)
    (rows_of bytes) (empty_network period) I e

fixed_period_from : (entries : List (ℕ × ℕ)) (I : Network) → (fold (λ J x. effect J (Fix x.0 x.1)) I entries).period ≡ I.period
fixed_period_from [] I = refl
fixed_period_from (x ∷ entries) I = fixed_period_from entries (effect I (Fix x.0 x.1))

pub fixed_period : (I : Network) (m : Times) → (with_fixed I m).period ≡ I.period
fixed_period I m = fixed_period_from m.entries I
