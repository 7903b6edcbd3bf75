-- Tensions, violations and cost of a timetable for an instance.
use Rattle.std.specs.Prelude.{◌≡◌, ℕ, ◌*◌, ◌<◌, Bool, not, List, [], ◌∷◌, ◌++◌, map, filter, find, sum_by, is_none, IsSome, Option, Some, option_map, unwrap_or, Result, Ok, Err}
use Rattle.pesp_base.specs.declared.activity.Activity.{Activity}
use Rattle.pesp_base.specs.declared.refusal.Refusal.{Refusal}
use Rattle.pesp_base.specs.declared.refusal.Refusal.TheVariants as no
use Rattle.pesp_base.specs.Refusals.{unless_refused}
use Rattle.pesp_base.specs.Tensions.{tension_of, slack_of, is_met}
use Rattle.pesp_instance.specs.declared.event.Event.{Event}
use Rattle.pesp_instance.specs.Network.{Network, agrees_with, event_ids}
use Rattle.pesp_tension.specs.declared.lists.ActivityTension.{ActivityTension}
use Rattle.pesp_tension.specs.declared.lists.Violation.{Violation}
use Rattle.pesp_tension.specs.declared.lists.Violation.TheVariants as of_
use Rattle.pesp_tension.specs.Timetables.{Times, time_of}

-- the time of an event that has one
abbrev pub time_at : Times → ℕ → ℕ
time_at m e = unwrap_or (time_of m e) 0

-- the tension and the slack of an activity
abbrev pub tension_in : Times → Activity → ActivityTension
tension_in m a = record {
  id = a.id;
  tension = tension_of m.period a.span (time_at m a.from) (time_at m a.to);
  slack = slack_of m.period a.span (time_at m a.from) (time_at m a.to);
}

abbrev pub tensions_of : Network → Times → List ActivityTension
tensions_of I m = map (tension_in m) I.activities

-- whether the times of its ends meet the activity
abbrev pub meets : Times → Activity → Bool
meets m a = is_met m.period a.span (time_at m a.from) (time_at m a.to)

-- the activities of a list that are not met
abbrev pub unmet_among : Times → List Activity → List Violation
unmet_among m activities = map (λ a. of_.Activity a.id) (filter (λ a. not (meets m a)) activities)

-- whether the event's time is in its window
abbrev pub agrees : Times → Event → Bool
agrees m e = agrees_with m.period e.window (time_at m e.id)

-- the events of a list whose times are not in their windows
abbrev pub moved_among : Times → List Event → List Violation
moved_among m events = map (λ e. of_.Event e.id) (filter (λ e. not (agrees m e)) events)

-- the activities that are not met, and the events whose times are not in their windows
abbrev pub violations_of : Network → Times → List Violation
violations_of I m = unmet_among m I.activities ++ moved_among m I.events

-- weight times slack of an activity
abbrev pub cost_in : Times → Activity → ℕ
cost_in m a = a.weight * slack_of m.period a.span (time_at m a.from) (time_at m a.to)

-- the sum of weight times slack over all activities, met or not
abbrev pub cost_of : Network → Times → ℕ
cost_of I m = sum_by (cost_in m) I.activities

-- the least event of the instance without a time
abbrev pub first_missing : Network → Times → Option ℕ
first_missing I m = find (λ e. is_none (time_of m e)) (event_ids I)

-- an answer, where each event has a time, and else the refusal that names the least event without one
abbrev pub where_timed : {X : Type 0} → Network → Times → X → Result X Refusal
where_timed I m x = unless_refused (option_map no.MissingTime (first_missing I m) ∷ []) x

-- the refusal is the one of an answer, or out of memory where the answer has none
abbrev pub IsRefusalOf : {X : Type 0} → Result X Refusal → Refusal → Type 0
IsRefusalOf (Err first) refusal = refusal ≡ first
IsRefusalOf (Ok x) refusal = refusal ≡ no.Memory

-- both ends of the activity have a time
pub record IsTimed (m : Times) (a : Activity) : Type 0 where
  pub from : IsSome (time_of m a.from)
  pub to : IsSome (time_of m a.to)

-- these are the times of the activity's ends
pub record AreTimes (m : Times) (a : Activity) (times : ℕ × ℕ) : Type 0 where
  pub from : time_of m a.from ≡ Some times.0
  pub to : time_of m a.to ≡ Some times.1
  pub from_below : times.0 < m.period
  pub to_below : times.1 < m.period
