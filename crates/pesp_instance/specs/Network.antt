-- What a clause sees of an instance of the periodic event scheduling problem.
pub use Rattle.pesp_instance.specs.declared.event.Event.{Event}
use Rattle.std.specs.Prelude.{ℕ, ◌≤◌, Bool, true, ◌||◌, ◌==◌, is_some, List, map, filter, length, Option, Some, None, option_and_then, All, IfSome, IsTrue}
use Rattle.std.specs.List.Sorted.{IsStrictlyIncreasing}
use Rattle.pesp_base.specs.declared.activity.Activity.{Activity}
use Rattle.pesp_base.specs.Bounds.{AreBounds}
use Rattle.pesp_base.specs.Limits.{greatest_number, greatest_period, greatest_weight, least_period, max_events, max_activities}
use Rattle.pesp_base.specs.Numbered.{with_number}
use Rattle.pesp_base.specs.Windows.{Interval, IsWindow, is_held, only_time}

-- a period, and the events and the activities, each ascending by number
pub record Network : Type 0 where
  pub period : ℕ
  pub events : List Event
  pub activities : List Activity

-- an event without a window
abbrev pub new_event : ℕ → Event
new_event e = record { id = e; window = None }

-- whether a residue is in an event's window at this period; an event without a window leaves all of them open
abbrev pub agrees_with : ℕ → Option Interval → ℕ → Bool
agrees_with period None residue = true
agrees_with period (Some window) residue = is_held period window residue

-- the fixed time of an event, which is that of a window of one residue
abbrev pub fixed_time : Event → Option ℕ
fixed_time e = option_and_then only_time e.window

-- the numbers of the events, ascending
abbrev pub event_ids : Network → List ℕ
event_ids I = map (λ e. e.id) I.events

-- the event of a number
abbrev pub event_of : Network → ℕ → Option Event
event_of I e = with_number (λ x. x.id) e I.events

abbrev pub has_event : Network → ℕ → Bool
has_event I e = is_some (event_of I e)

-- the window of an event, if it has one
abbrev pub window_of : Network → ℕ → Option Interval
window_of I e = option_and_then (λ x. x.window) (event_of I e)

-- the fixed time of an event, if it has one
abbrev pub fixed_of : Network → ℕ → Option ℕ
fixed_of I e = option_and_then fixed_time (event_of I e)

-- whether the event of a number may stand at the residue, by its window
abbrev pub admits : Network → ℕ → ℕ → Bool
admits I e residue = agrees_with I.period (window_of I e) residue

-- the activity of a number
abbrev pub activity_of : Network → ℕ → Option Activity
activity_of I n = with_number (λ a. a.id) n I.activities

-- whether the event is an end of the activity
abbrev pub is_end_of : ℕ → Activity → Bool
is_end_of e a = (a.from == e) || (a.to == e)

-- the activities with the event as an end, a loop once
abbrev pub around : Network → ℕ → List Activity
around I e = filter (is_end_of e) I.activities

-- the event's number is within the limit, and its window is one of the period
pub record IsEvent (period : ℕ) (e : Event) : Type 0 where
  pub number : e.id ≤ greatest_number
  pub window : IfSome e.window (IsWindow period)

-- the activity's number, bounds and weight are within the limits
pub record IsActivity (a : Activity) : Type 0 where
  pub number : a.id ≤ greatest_number
  pub bounds : AreBounds a.span.lower a.span.upper
  pub weight : a.weight ≤ greatest_weight

-- both ends of the activity are events
pub record HasEnds (events : List Event) (a : Activity) : Type 0 where
  pub from : IsTrue (is_some (with_number (λ x. x.id) a.from events))
  pub to : IsTrue (is_some (with_number (λ x. x.id) a.to events))

-- each number stands once, all numbers, windows and counts are within their limits, and activities lead between events
pub record IsNetwork (I : Network) : Type 0 where
  pub period_low : least_period ≤ I.period
  pub period_high : I.period ≤ greatest_period
  pub events_rise : IsStrictlyIncreasing (event_ids I)
  pub events_within : All (IsEvent I.period) I.events
  pub few_events : length I.events ≤ max_events I.period
  pub activities_rise : IsStrictlyIncreasing (map (λ a. a.id) I.activities)
  pub activities_within : All IsActivity I.activities
  pub few_activities : length I.activities ≤ max_activities I.period
  pub ends : All (HasEnds I.events) I.activities
