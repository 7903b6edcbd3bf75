-- Early ends: what becomes of clap's errors, what is said of an end, and its exit status.
use Rattle.std.specs.Prelude.{◌≡◌, ◌⊎◌, ℕ, List, Option, Some, None, Result, Ok, Err, codes}
use Rattle.std.specs.Fmt.{with_newline}
use Rattle.clap.specs.Values.{kind_of}
use Rattle.clap.specs.declared.error.Error.{Error}
use Rattle.clap.specs.declared.error.kind.ErrorKind.{ErrorKind}
use Rattle.clap.specs.declared.error.kind.ErrorKind.TheVariants as kind
use Rattle.pesp_shell_main.specs.declared.ending.Ending.{Ending}
use Rattle.pesp_shell_main.specs.declared.ending.Ending.TheVariants as ending
use Rattle.pesp_shell_main.specs.declared.fault.Fault.{Fault}
use Rattle.pesp_shell_main.specs.declared.fault.Fault.TheVariants as fault
use Rattle.pesp_shell_main.specs.Faults.{text_of}

-- how the program ends where clap gave an error of this kind
abbrev pub ending_of : ErrorKind → Error → Ending
ending_of kind.OutOfMemory _ = ending.Fault (fault.Memory 0)
ending_of _ error = ending.Words error

-- what calls say of texts: that standard output got one, that standard error did, and that writing to either failed; a text is None where it is not known
pub record Console : Type 1 where
  pub printed : Option (List ℕ) → Type 0
  pub reported : Option (List ℕ) → Type 0
  pub unprinted : Type 0
  pub unreported : Type 0

abbrev pub console : (Option (List ℕ) → Type 0) → (Option (List ℕ) → Type 0) → Type 0 → Type 0 → Console
console printed reported unprinted unreported = record { printed = printed; reported = reported; unprinted = unprinted; unreported = unreported }

-- standard error got the text, or writing it failed
abbrev pub IsReported : Console → Option (List ℕ) → Type 0
IsReported c text = c.reported text ⊎ c.unreported

-- the fault is reported in a line, and the status is 1
abbrev pub EndsByFault : Console → Fault → ℕ → Type 0
EndsByFault c f status = IsReported c (with_newline (text_of f)) × (status ≡ 1)

-- a text is printed, and the status is 0, or it cannot be
abbrev pub EndsByPrinting : Console → ℕ → Type 0
EndsByPrinting c status = (c.printed None × (status ≡ 0)) ⊎ (c.unprinted × EndsByFault c fault.NotWritten status)

-- help and the version are printed; what else clap says is reported, and the status is 2
abbrev pub EndsByWords : Console → ErrorKind → ℕ → Type 0
EndsByWords c kind.DisplayHelp status = EndsByPrinting c status
EndsByWords c kind.DisplayVersion status = EndsByPrinting c status
EndsByWords c _ status = IsReported c None × (status ≡ 2)

abbrev pub EndsEarly : Console → Ending → ℕ → Type 0
EndsEarly c (ending.Words error) status = EndsByWords c (kind_of error) status
EndsEarly c ending.NotText status = IsReported c (with_newline (Some (codes "error: a word of the command line is not UTF-8"))) × (status ≡ 2)
EndsEarly c (ending.Fault f) status = EndsByFault c f status

-- the program ends so: with status 0 where it did what was asked for, and else with what is said of the end and its status
abbrev pub EndsWith : Console → Result (Unit {0}) Ending → ℕ → Type 0
EndsWith c (Ok done) status = status ≡ 0
EndsWith c (Err e) status = EndsEarly c e status
