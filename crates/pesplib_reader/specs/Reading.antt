-- What files of activities, of times and of fixed times stand for.
use Rattle.std.specs.Prelude.{◌≡◌, ℕ, ◌<◌, ℤ, true, not, nat_lt, nat_le, is_some, if◌then◌else◌, List, [], ◌∷◌, ◌++◌, length, fold, Option, Result}
use Rattle.pesp_base.specs.Refusals.{unless_refused, when}
use Rattle.pesp_base.specs.declared.activity.Activity.{Activity}
use Rattle.pesp_base.specs.Limits.{max_activities, max_events}
use Rattle.pesp_base.specs.Tensions.{residue}
use Rattle.pesp_instance.specs.Network.{Network, has_event, activity_of}
use Rattle.pesp_instance.specs.Edited.{effect, empty_network}
use Rattle.pesp_instance.specs.declared.edit.Edit.TheVariants.{AddActivity, AddEvent, Fix}
use Rattle.pesp_tension.specs.Timetables.{Times, no_times, time_of, with_time}
use Rattle.pesplib_reader.specs.declared.fault.ReadFault.{ReadFault}
use Rattle.pesplib_reader.specs.declared.fault.FaultKind.{FaultKind}
use Rattle.pesplib_reader.specs.declared.fault.FaultKind.TheVariants as fault
use Rattle.pesplib_reader.specs.Records.{rows_of}
use Rattle.pesplib_reader.specs.Rows.{activity_faults, activity_in, field, natural, time_faults, value}
use Rattle.pesplib_reader.specs.Taking.{taken}

-- the instance with an event, which it may have already
abbrev pub with_event : Network → ℕ → Network
with_event I e = if has_event I e then I else effect I (AddEvent e)

-- the instance with the ends of an activity
abbrev pub with_ends : Network → Activity → Network
with_ends I a = with_event (with_event I a.from) a.to

-- the instance with an activity and its ends
abbrev pub with_activity : Network → Activity → Network
with_activity I a = effect (with_ends I a) (AddActivity a)

-- the faults that an activity may have after those of an instance, in order
abbrev pub instance_faults : Network → Activity → List (Option FaultKind)
instance_faults I a =
    when (is_some (activity_of I a.id)) fault.DuplicateActivity
    ∷ when (nat_lt (max_events I.period) (length (with_ends I a).events)) fault.TooManyEvents
    ∷ when (nat_le (max_activities I.period) (length I.activities)) fault.TooManyActivities ∷ []

-- the instance with one more activity, or the first fault
abbrev pub activity_taken : Network → Activity → Result Network FaultKind
activity_taken I a = unless_refused (instance_faults I a) (with_activity I a)

-- the faults that a row of an activity may have after other activities, in order
abbrev pub activity_faults_after : Network → List (List ℕ) → List (Option FaultKind)
activity_faults_after I fields = activity_faults fields ++ instance_faults I (activity_in fields)

-- the instance with the activity of one more row
abbrev pub with_activity_row : Network → List (List ℕ) → Network
with_activity_row I fields = with_activity I (activity_in fields)

-- the instance that a file of activities stands for
abbrev pub activities_read : ℕ → List ℕ → Result Network ReadFault
activities_read period bytes = taken activity_faults_after with_activity_row (empty_network period) (rows_of bytes)

-- the faults that an event may have after other events of a timetable, in order
abbrev pub event_faults : Times → ℕ → List (Option FaultKind)
event_faults m event =
    when (is_some (time_of m event)) fault.DuplicateEvent
    ∷ when (nat_le (max_events m.period) (length m.entries)) fault.TooManyEvents ∷ []

-- the same of an event of an instance, whose time is to be fixed
abbrev pub fixed_faults : Network → Times → ℕ → List (Option FaultKind)
fixed_faults I m event =
    when (is_some (time_of m event)) fault.DuplicateEvent
    ∷ when (not (has_event I event)) fault.NoEvent ∷ []

-- the timetable with one more event, whose time is taken modulo the period
abbrev pub with_time_modulo : Times → ℕ → ℤ → Times
with_time_modulo m event time = with_time m event (residue m.period time)

-- the timetable with one more event, or the first fault
abbrev pub event_taken : Times → ℕ → ℤ → Result Times FaultKind
event_taken m event time = unless_refused (event_faults m event) (with_time_modulo m event time)

-- the fixed times with that of one more event, or the first fault
abbrev pub fixed_taken : Network → Times → ℕ → ℤ → Result Times FaultKind
fixed_taken I m event time = unless_refused (fixed_faults I m event) (with_time_modulo m event time)

-- the faults that a row of an event and a time may have after other events, in order
abbrev pub time_faults_after : Times → List (List ℕ) → List (Option FaultKind)
time_faults_after m fields = time_faults fields ++ event_faults m (natural (field fields 1))

-- the same, where the events are those of an instance
abbrev pub fixed_faults_after : Network → Times → List (List ℕ) → List (Option FaultKind)
fixed_faults_after I m fields = time_faults fields ++ fixed_faults I m (natural (field fields 1))

-- the timetable with the event of one more row
abbrev pub with_time_row : Times → List (List ℕ) → Times
with_time_row m fields = with_time_modulo m (natural (field fields 1)) (value (field fields 2))

-- the timetable that a file of times stands for
abbrev pub times_read : ℕ → List ℕ → Result Times ReadFault
times_read period bytes = taken time_faults_after with_time_row (no_times period) (rows_of bytes)

-- the fixed times that a file stands for, of events of an instance
abbrev pub fixed_read : Network → List ℕ → Result Times ReadFault
fixed_read I bytes = taken (fixed_faults_after I) with_time_row (no_times I.period) (rows_of bytes)

-- the instance with these times fixed
abbrev pub with_fixed : Network → Times → Network
with_fixed I m = fold (λ J x. effect J (Fix x.0 x.1)) I m.entries

-- these times may be fixed: their events are those of the instance, and they are below its period
abbrev pub AreFixable : Network → List (ℕ × ℕ) → Type 0
AreFixable I [] = Unit {0}
AreFixable I (x ∷ entries) = (has_event I x.0 ≡ true) × (x.1 < I.period) × AreFixable I entries
