-- The cost of the working timetable and the number of events without a time, as they are kept.
use Rattle.std.specs.Prelude.{◌≡◌, ℕ, ◌+◌, ◌-◌, ◌<◌, if◌then◌else◌, is_none, [], length, None}
use Rattle.std.specs.Option.{option_map_or}
use Rattle.pesp_base.specs.declared.activity.Activity.{Activity}
use Rattle.pesp_instance.specs.declared.edit.Edit.{Edit}
use Rattle.pesp_instance.specs.declared.edit.Edit.TheVariants.{AddEvent, DropEvent, Fix, SetWindow, Unfix, AddActivity, DropActivity, SetSpan, SetWeight, SetEnds}
use Rattle.pesp_instance.specs.Network.{Network, activity_of}
use Rattle.pesp_tension.specs.Answers.{cost_in, cost_of, time_at}
use Rattle.pesp_tension.specs.Timetables.{Times, time_of}
use Rattle.pesp_bench.specs.State.{IsState}

-- the times are of the instance's period and of events of it, ascending
abbrev pub AreTimesOf : Network → Times → Type 0
AreTimesOf I m = IsState I [] m None

-- the cost is the timetable's, an event without a time counted at 0, and so many events of the instance have no time
pub record IsCosted (I : Network) (m : Times) (cost missing : ℕ) : Type 0 where
  pub costs : cost ≡ cost_of I m
  pub lacking : missing + length m.entries ≡ length I.events

-- the first is the time of the event, 0 where it has none, and the second one that it may have
pub record IsMove (m : Times) (e : ℕ) (own : ℕ × ℕ) : Type 0 where
  pub before : own.0 ≡ time_at m e
  pub low : own.0 < m.period
  pub below : own.1 < m.period

-- what the activity of a number costs, and 0 where there is none
abbrev pub cost_of_number : Network → Times → ℕ → ℕ
cost_of_number I m n = option_map_or (cost_in m) (activity_of I n) 0

-- what the activity costs that an edit makes, drops or changes
abbrev pub cost_edited : Network → Times → Edit → ℕ
cost_edited I m (AddActivity a) = cost_of_number I m a.id
cost_edited I m (DropActivity n) = cost_of_number I m n
cost_edited I m (SetSpan n span) = cost_of_number I m n
cost_edited I m (SetWeight n weight) = cost_of_number I m n
cost_edited I m (SetEnds n from to) = cost_of_number I m n
cost_edited I m (AddEvent e) = 0
cost_edited I m (DropEvent e) = 0
cost_edited I m (Fix e t) = 0
cost_edited I m (SetWindow e first length) = 0
cost_edited I m (Unfix e) = 0

-- what an activity costs that an edit of its number dropped or changed
abbrev pub cost_changed : Times → Edit → Activity → ℕ
cost_changed m (SetSpan n span) a = cost_in m (record a { span = span })
cost_changed m (SetWeight n weight) a = cost_in m (record a { weight = weight })
cost_changed m (SetEnds n from to) a = cost_in m (record a { from = from; to = to })
cost_changed m (DropActivity n) a = 0
cost_changed m (AddActivity b) a = 0
cost_changed m (AddEvent e) a = 0
cost_changed m (DropEvent e) a = 0
cost_changed m (Fix e t) a = 0
cost_changed m (SetWindow e first length) a = 0
cost_changed m (Unfix e) a = 0

-- how many events have no time after an accepted edit, where so many had none before it
abbrev pub missing_after : Edit → Times → ℕ → ℕ
missing_after (AddEvent e) m missing = missing + 1
missing_after (DropEvent e) m missing = if is_none (time_of m e) then missing - 1 else missing
missing_after (Fix e t) m missing = missing
missing_after (SetWindow e first length) m missing = missing
missing_after (Unfix e) m missing = missing
missing_after (AddActivity a) m missing = missing
missing_after (DropActivity n) m missing = missing
missing_after (SetSpan n span) m missing = missing
missing_after (SetWeight n weight) m missing = missing
missing_after (SetEnds n from to) m missing = missing
