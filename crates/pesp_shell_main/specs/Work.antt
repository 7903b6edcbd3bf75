-- What the words of a command line come to: which files are answered, and how the program ends.
use Rattle.std.specs.Prelude.{◌≡◌, ◌⊎◌, ℕ, true, false, List, Option, MatchResult, Result, Ok, Err}
use Rattle.std.specs.declared.io.ErrorKind as io
use Rattle.std.specs.declared.io.ErrorKind.TheVariants as failed
use Rattle.clap.specs.Values.{kind_of}
use Rattle.clap.specs.Words.{FailsBy, fault_of, takes}
use Rattle.clap.specs.declared.error.Error.{Error}
use Rattle.clap.specs.declared.error.kind.ErrorKind.TheVariants as kind
use Rattle.pesp_shell.specs.declared.arguments.Settings.{Settings}
use Rattle.pesp_shell.specs.declared.run_fault.RunFault.{RunFault}
use Rattle.pesp_shell.specs.Opening.{Files}
use Rattle.pesp_shell.specs.Runs.{IsRun, Marks}
use Rattle.pesp_shell.specs.Settings.{AreSettings, pespbench}
use Rattle.pesp_shell_main.specs.declared.ending.Ending.{Ending}
use Rattle.pesp_shell_main.specs.declared.ending.Ending.TheVariants as ending
use Rattle.pesp_shell_main.specs.declared.fault.Fault.{Fault}
use Rattle.pesp_shell_main.specs.declared.fault.Fault.TheVariants as fault
use Rattle.pesp_shell_main.specs.declared.file_bytes.FileBytes.{FileBytes}
use Rattle.pesp_shell_main.specs.Checks.{IsUnchecked, IsWritten}
use Rattle.pesp_shell_main.specs.Endings.{Console, EndsWith, ending_of}
use Rattle.pesp_shell_main.specs.Faults as faults
use Rattle.pesp_shell_main.specs.Files.{AreRead, FileSystem, IsFirstUnread}
use Rattle.pesp_shell_main.specs.Wiring.{files_of}

-- standard input and output: the bytes left and written before and after, and what the devices tell at the end
pub record Streams : Type 0 where
  pub left : Option (List ℕ)
  pub left' : Option (List ℕ)
  pub written : Option (List ℕ)
  pub written' : Option (List ℕ)
  pub marks : Marks

abbrev pub streams : Option (List ℕ) → Option (List ℕ) → Option (List ℕ) → Option (List ℕ) → Marks → Streams
streams left left' written written' m = record { left = left; left' = left'; written = written; written' = written'; marks = m }

-- nothing was read or written, and no device failed
pub record AreUnused (s : Streams) : Type 0 where
  pub left : s.left' ≡ s.left
  pub written : s.written' ≡ s.written
  pub read : s.marks.not_read ≡ false
  pub wrote : s.marks.not_written ≡ false

-- what the settings ask for was done for these files, or ended so: a check, or a run of commands
pub record IsAnswer (settings : Settings) (f : Files) (s : Streams) (ended : Result (Unit {0}) RunFault) : Type 0 where
  pub check : settings.check ≡ true
      → MatchResult ended (λ _. IsWritten f s.written s.written' s.marks.not_written s.marks.passed_on) (IsUnchecked f s.written s.written' s.marks.not_written)
  pub commands : settings.check ≡ false → IsRun f s.left s.left' s.written s.written' s.marks ended

-- the program goes on, or ends with the fault
abbrev pub ended_by : Result (Unit {0}) RunFault → Result (Unit {0}) Ending
ended_by (Ok done) = Ok done
ended_by (Err f) = Err (ending.Fault (faults.fault_of f))

-- the words are refused, or memory is wanted to read them
pub record AreRefused (words : List (List ℕ)) (s : Streams) (ended : Result (Unit {0}) Ending) : Type 0 where
  pub error : Error
  pub fails : FailsBy {T = Settings} (fault_of pespbench words) (Err error)
  pub taken : takes pespbench words ≡ true → kind_of error ≡ kind.OutOfMemory
  pub ends : ended ≡ Err (ending_of (kind_of error) error)
  pub unused : AreUnused s

-- the words give settings, and the first of their files that gave no bytes ends the program
pub record IsUnread {F : Type 0} (fs : FileSystem F) (words : List (List ℕ)) (s : Streams) (ended : Result (Unit {0}) Ending) : Type 0 where
  pub settings : Settings
  pub given : AreSettings words settings
  pub fault : Fault
  pub first : IsFirstUnread fs settings fault
  pub ends : ended ≡ Err (ending.Fault fault)
  pub unused : AreUnused s

-- the words give settings, the files that these name gave their bytes, each its own, and what the settings ask for was done for just these bytes
pub record IsDone {F : Type 0} (fs : FileSystem F) (words : List (List ℕ)) (s : Streams) (ended : Result (Unit {0}) Ending) : Type 0 where
  pub settings : Settings
  pub given : AreSettings words settings
  pub files : FileBytes
  pub read : AreRead fs settings files
  pub result : Result (Unit {0}) RunFault
  pub answer : IsAnswer settings (files_of settings.period files) s result
  pub ends : ended ≡ ended_by result

-- what the words come to
abbrev pub IsWork : {F : Type 0} → FileSystem F → List (List ℕ) → Streams → Result (Unit {0}) Ending → Type 0
IsWork fs words s ended = AreRefused words s ended ⊎ (IsUnread fs words s ended ⊎ IsDone fs words s ended)

-- the words of a process, or how reading them failed
abbrev pub Words : Type 0
Words = Result (List (List ℕ)) io.ErrorKind

abbrev pub words_of : {X E : Type 0} → (X → List (List ℕ)) → (E → io.ErrorKind) → Result X E → Words
words_of texts kind (Ok words) = Ok (texts words)
words_of texts kind (Err error) = Err (kind error)

-- how the program ends where its words cannot be read
abbrev pub wordless : io.ErrorKind → Ending
wordless failed.OutOfMemory = ending.Fault (fault.Memory 0)
wordless _ = ending.NotText

-- what these words of a process come to; memory may be wanted before they are looked at
abbrev pub MayEndBy : {F : Type 0} → FileSystem F → Words → Streams → Result (Unit {0}) Ending → Type 0
MayEndBy fs (Ok words) s ended = IsWork fs words s ended ⊎ ((ended ≡ Err (ending.Fault (fault.Memory 0))) × AreUnused s)
MayEndBy fs (Err kind) s ended = (ended ≡ Err (wordless kind)) × AreUnused s

-- the whole program: it ends as these words may, and says so and has the status of that end
abbrev pub IsProgram : {F : Type 0} → FileSystem F → Console → Words → Streams → ℕ → Type 0
IsProgram fs c words s status = (ended : Result (Unit {0}) Ending) × MayEndBy fs words s ended × EndsWith c ended status
