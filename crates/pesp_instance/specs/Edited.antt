-- What an edit makes of an instance.
use Rattle.std.specs.Prelude.{◌≡◌, ℕ, ◌⊎◌, Bool, true, false, IsTrue, IsOk, not, nat_le, nat_lt, ◌==◌, ◌||◌, is_some, is_none, List, [], ◌∷◌, length, find, fold, Option, Some, None, option_map, Result, Err}
use Rattle.std.specs.Result.{result_unwrap_or}
use Rattle.pesp_base.specs.declared.activity.Activity.{Activity}
use Rattle.pesp_base.specs.declared.refusal.Refusal.{Refusal}
use Rattle.pesp_base.specs.declared.refusal.Refusal.TheVariants as no
use Rattle.pesp_base.specs.Limits.{max_events, max_activities}
use Rattle.pesp_base.specs.Numbered.{put_in, take_out, change_in}
use Rattle.pesp_base.specs.Refusals.{when, unless_refused}
use Rattle.pesp_base.specs.Windows.{Interval, at_time}
use Rattle.pesp_instance.specs.declared.edit.Edit.{Edit}
use Rattle.pesp_instance.specs.declared.edit.Edit.TheVariants.{AddEvent, DropEvent, Fix, SetWindow, Unfix, AddActivity, DropActivity, SetSpan, SetWeight, SetEnds}
use Rattle.pesp_instance.specs.Network.{Network, activity_of, has_event, is_end_of, new_event, window_of}

-- the instance without events
abbrev pub empty_network : ℕ → Network
empty_network period = record { period = period; events = []; activities = [] }

-- the number is no event
abbrev pub no_event : Network → ℕ → Option Refusal
no_event I e = when (not (has_event I e)) (no.NoEvent e)

-- the number is no activity
abbrev pub no_activity : Network → ℕ → Option Refusal
no_activity I n = when (is_none (activity_of I n)) (no.NoActivity n)

-- the refusals that an edit may meet, in order; out of memory is none of them
abbrev pub refusals : Network → Edit → List (Option Refusal)
refusals I (AddEvent e) = when (has_event I e) (no.EventExists e) ∷ when (nat_le (max_events I.period) (length I.events)) no.TooManyEvents ∷ []
refusals I (DropEvent e) = no_event I e ∷ option_map (λ a. no.EventInUse e a.id) (find (is_end_of e) I.activities) ∷ []
refusals I (Fix e t) = no_event I e ∷ when (nat_le I.period t) (no.TimeOutOfRange t) ∷ []
refusals I (SetWindow e first length) =
    no_event I e ∷ when (nat_le I.period first) (no.TimeOutOfRange first)
    ∷ when (length == 0 || nat_lt I.period length) (no.LengthOutOfRange length) ∷ []
refusals I (Unfix e) = no_event I e ∷ when (is_none (window_of I e)) (no.NotFixed e) ∷ []
refusals I (AddActivity a) =
    when (is_some (activity_of I a.id)) (no.ActivityExists a.id) ∷ no_event I a.from ∷ no_event I a.to
    ∷ when (nat_le (max_activities I.period) (length I.activities)) no.TooManyActivities ∷ []
refusals I (DropActivity n) = no_activity I n ∷ []
refusals I (SetSpan n span) = no_activity I n ∷ []
refusals I (SetWeight n weight) = no_activity I n ∷ []
refusals I (SetEnds n from to) = no_activity I n ∷ no_event I from ∷ no_event I to ∷ []

-- the instance with the event's window set or taken away
abbrev pub rewindowed : Network → ℕ → Option Interval → Network
rewindowed I e window = record I { events = change_in (λ x. x.id) e (λ x. record x { window = window }) I.events }

-- the instance with the activity of a number changed
abbrev pub changed : Network → ℕ → (Activity → Activity) → Network
changed I n change = record I { activities = change_in (λ a. a.id) n change I.activities }

-- the instance after an edit that is accepted
abbrev pub effect : Network → Edit → Network
effect I (AddEvent e) = record I { events = put_in (λ x. x.id) (new_event e) I.events }
effect I (DropEvent e) = record I { events = take_out (λ x. x.id) e I.events }
effect I (Fix e t) = rewindowed I e (Some (at_time t))
effect I (SetWindow e first length) = rewindowed I e (Some (record { first = first; length = length }))
effect I (Unfix e) = rewindowed I e None
effect I (AddActivity a) = record I { activities = put_in (λ b. b.id) a I.activities }
effect I (DropActivity n) = record I { activities = take_out (λ b. b.id) n I.activities }
effect I (SetSpan n span) = changed I n (λ a. record a { span = span })
effect I (SetWeight n weight) = changed I n (λ a. record a { weight = weight })
effect I (SetEnds n from to) = changed I n (λ a. record a { from = from; to = to })

-- the new instance, or the first refusal
abbrev pub edited : Network → Edit → Result Network Refusal
edited I edit = unless_refused (refusals I edit) (effect I edit)

-- the instance after a list of edits, of which the refused ones change nothing
abbrev pub after : Network → List Edit → Network
after I edits = fold (λ J edit. result_unwrap_or (edited J edit) J) I edits

-- whether the edit may need memory
abbrev pub grows : Edit → Bool
grows (AddEvent e) = true
grows (AddActivity a) = true
grows (SetEnds n from to) = true
grows (DropEvent e) = false
grows (Fix e t) = false
grows (SetWindow e first length) = false
grows (Unfix e) = false
grows (DropActivity n) = false
grows (SetSpan n span) = false
grows (SetWeight n weight) = false

-- the first refusal of the edit, or out of memory where there is none
abbrev pub IsRefusal : Network → Edit → Refusal → Type 0
IsRefusal I edit refusal =
    (edited I edit ≡ Err refusal) ⊎ ((refusal ≡ no.Memory) × IsTrue (grows edit) × IsOk (edited I edit))
