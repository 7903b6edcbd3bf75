-- The faults that end a run, and their texts.
use Rattle.std.specs.Prelude.{ℕ, List, ◌++◌, Option, Some, None, codes, decimal}
use Rattle.std.specs.declared.io.ErrorKind.{ErrorKind}
use Rattle.std.specs.declared.io.ErrorKind.TheVariants as kind
use Rattle.pesp_shell.specs.declared.run_fault.RunFault.{RunFault}
use Rattle.pesp_shell.specs.declared.run_fault.RunFault.TheVariants as run
use Rattle.pesp_shell.specs.declared.run_fault.Source.{Source}
use Rattle.pesp_shell.specs.declared.run_fault.Source.TheVariants as source
use Rattle.pesp_shell_main.specs.declared.fault.Fault.{Fault}
use Rattle.pesp_shell_main.specs.declared.fault.Fault.TheVariants as fault

-- a fault of the shell, as the program tells it
abbrev pub fault_of : RunFault → Fault
fault_of (run.File source f) = fault.Faulty source f
fault_of run.Read = fault.NotRead
fault_of run.Write = fault.NotWritten
fault_of (run.Memory line) = fault.Memory line
fault_of (run.LineTooLong line) = fault.LineTooLong line
fault_of run.TooManyLines = fault.TooManyLines

-- the fault of a file where a call failed so
abbrev pub fault_of_kind : Source → ErrorKind → Fault
fault_of_kind source kind.OutOfMemory = fault.Memory 0
fault_of_kind source _ = fault.Unreadable source

abbrev pub name_of : Source → List ℕ
name_of source.Activities = codes "activities"
name_of source.Fixed = codes "fixed"
name_of source.Times = codes "times"

-- the text of a fault; what it says of a faulty record is tested
abbrev pub text_of : Fault → Option (List ℕ)
text_of (fault.Unreadable source) = Some (codes "pespbench: " ++ name_of source ++ codes " file cannot be read")
text_of (fault.TooLong source) = Some (codes "pespbench: " ++ name_of source ++ codes " file is too long")
text_of (fault.Faulty source f) = None
text_of fault.NotRead = Some (codes "pespbench: commands cannot be read")
text_of fault.NotWritten = Some (codes "pespbench: replies cannot be written")
text_of (fault.Memory line) = Some (codes "pespbench: out of memory at line " ++ decimal line)
text_of (fault.LineTooLong line) = Some (codes "pespbench: line " ++ decimal line ++ codes " is longer than 4096 bytes")
text_of fault.TooManyLines = Some (codes "pespbench: more than 1000000 lines")
