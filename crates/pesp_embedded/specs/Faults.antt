-- What is told of a call on a session that does nothing.
use Rattle.std.specs.Prelude.{◌≡◌, ℕ, ◌<◌, ◌≤◌, true, false, length, List}
use Rattle.std.specs.List.{list_any}
use Rattle.pesp_base.specs.declared.refusal.Refusal.{Refusal}
use Rattle.pesp_base.specs.declared.refusal.Refusal.TheVariants as no
use Rattle.pesp_base.specs.Refusals.{number_of}
use Rattle.pesp_shell_io.specs.Lines.{is_line_feed, longest_line}
use Rattle.pesp_shell.specs.Runs.{MayWant}
use Rattle.pesp_embedded.specs.declared.fault.Fault.{Fault}
use Rattle.pesp_embedded.specs.declared.fault.Fault.TheVariants as fault
use Rattle.pesp_embedded.specs.declared.told.Told.{Told}

-- the event that a refusal of a question names, and 0 where it names none
abbrev pub event_of : Refusal → ℕ
event_of (no.NoEvent e) = e
event_of (no.MissingTime e) = e
event_of other = 0

-- what is told of it
abbrev pub told_fault : Fault → Told
told_fault fault.Memory = record { length = 0; place = 0; status = 6; reason = 0; field = 0 }
told_fault fault.LongLine = record { length = 0; place = 0; status = 7; reason = 0; field = 0 }
told_fault fault.Closed = record { length = 0; place = 0; status = 10; reason = 0; field = 0 }
told_fault fault.Open = record { length = 0; place = 0; status = 11; reason = 0; field = 0 }
told_fault fault.NotOneLine = record { length = 0; place = 0; status = 12; reason = 0; field = 0 }
told_fault (fault.Refused refusal) = record { length = 0; place = event_of refusal; status = 13; reason = number_of refusal; field = 0 }

-- why a line is not answered by an open session: the first of these, where memory may be wanted for it
abbrev pub IsLineFault : List ℕ → Fault → Type 0
IsLineFault line fault.LongLine = longest_line < length line
IsLineFault line fault.NotOneLine = (length line ≤ longest_line) × (list_any is_line_feed line ≡ true)
IsLineFault line fault.Memory = MayWant line × (list_any is_line_feed line ≡ false)
IsLineFault line other = ⊥
