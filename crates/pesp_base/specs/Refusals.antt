-- The numbers of refusals, and the first of several refusals or faults.
use Rattle.std.specs.Prelude.{ℕ, Bool, if◌then◌else◌, List, [], ◌∷◌, Option, Some, None, Result, Ok, Err}
use Rattle.pesp_base.specs.declared.refusal.Refusal.{Refusal}
use Rattle.pesp_base.specs.declared.refusal.Refusal.TheVariants as no

abbrev pub number_of : Refusal → ℕ
number_of (no.EventExists e) = 1
number_of (no.NoEvent e) = 2
number_of (no.EventInUse e a) = 3
number_of (no.TimeOutOfRange t) = 4
number_of (no.ActivityExists a) = 5
number_of (no.NoActivity a) = 6
number_of no.TooManyEvents = 7
number_of no.TooManyActivities = 8
number_of (no.NotFixed e) = 9
number_of no.Memory = 10
number_of (no.MissingTime e) = 11
number_of no.Infeasible = 12
number_of (no.LengthOutOfRange n) = 13

-- a refusal or a fault, where its condition holds
abbrev pub when : {E : Type 0} → Bool → E → Option E
when condition refusal = if condition then Some refusal else None

-- the first refusal of a list, or else the value
abbrev pub unless_refused : {E X : Type 0} → List (Option E) → X → Result X E
unless_refused [] x = Ok x
unless_refused (None ∷ rest) x = unless_refused rest x
unless_refused (Some refusal ∷ rest) x = Err refusal
