-- What a call tells, in numbers.
use Rattle.std.specs.Prelude.{ℕ, unwrap_or, Result, Ok, Err}
use Rattle.pesp_tension.specs.Timetables.{Times, time_of}
use Rattle.pesplib_reader.specs.declared.fault.FaultKind.{FaultKind}
use Rattle.pesplib_reader.specs.declared.fault.FaultKind.TheVariants as kind
use Rattle.pesp_shell.specs.declared.run_fault.RunFault.{RunFault}
use Rattle.pesp_shell.specs.declared.run_fault.RunFault.TheVariants as fault
use Rattle.pesp_shell.specs.declared.run_fault.Source.{Source}
use Rattle.pesp_shell.specs.declared.run_fault.Source.TheVariants as source
use Rattle.pesp_embedded.specs.declared.told.Told.{Told}

-- the file that has a fault
abbrev pub status_of_file : Source → ℕ
status_of_file source.Activities = 1
status_of_file source.Fixed = 2
status_of_file source.Times = 3

-- how a run ended
abbrev pub status_of : Result (Unit {0}) RunFault → ℕ
status_of (Ok done) = 0
status_of (Err (fault.File s found)) = status_of_file s
status_of (Err fault.Read) = 4
status_of (Err fault.Write) = 5
status_of (Err (fault.Memory line)) = 6
status_of (Err (fault.LineTooLong line)) = 7
status_of (Err fault.TooManyLines) = 8

-- the record of a file, or the line, at which a run ended
abbrev pub place_of : Result (Unit {0}) RunFault → ℕ
place_of (Err (fault.File s found)) = found.place
place_of (Err (fault.Memory line)) = line
place_of (Err (fault.LineTooLong line)) = line
place_of other = 0

-- why a record is refused
abbrev pub reason_of_kind : FaultKind → ℕ
reason_of_kind kind.FieldCount = 1
reason_of_kind (kind.BadNumber field) = 2
reason_of_kind (kind.OutOfRange field) = 3
reason_of_kind kind.FractionalWeight = 4
reason_of_kind kind.Crossed = 5
reason_of_kind kind.DuplicateActivity = 6
reason_of_kind kind.DuplicateEvent = 7
reason_of_kind kind.NoEvent = 8
reason_of_kind kind.TooManyEvents = 9
reason_of_kind kind.TooManyActivities = 10
reason_of_kind kind.Memory = 11

-- the field of a record that is no number or out of range
abbrev pub field_of_kind : FaultKind → ℕ
field_of_kind (kind.BadNumber field) = field
field_of_kind (kind.OutOfRange field) = field
field_of_kind other = 0

-- the reason of a file's fault, and 0 where a run ended otherwise
abbrev pub reason_of : Result (Unit {0}) RunFault → ℕ
reason_of (Err (fault.File s found)) = reason_of_kind found.kind
reason_of other = 0

-- the field of a file's fault, and 0 where a run ended otherwise
abbrev pub field_of : Result (Unit {0}) RunFault → ℕ
field_of (Err (fault.File s found)) = field_of_kind found.kind
field_of other = 0

-- what is told where there is no such period
abbrev pub no_period : Told
no_period = record { length = 0; place = 0; status = 9; reason = 0; field = 0 }

-- what is told where a call was done, with so many bytes or numbers
abbrev pub told_done : ℕ → Told
told_done count = record { length = count; place = 0; status = 0; reason = 0; field = 0 }

-- in the place of the time of an event without one
abbrev pub no_time : ℕ
no_time = 65535

-- the time of an event, or the number for none
abbrev pub time_or_none : Times → ℕ → ℕ
time_or_none m e = unwrap_or (time_of m e) no_time
