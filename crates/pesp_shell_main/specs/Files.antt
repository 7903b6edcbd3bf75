-- How long a file may be, the bytes that the files of paths gave, and why one of them gave none.
use Rattle.std.specs.Global.{Vec}
use Rattle.std.specs.Prelude.{◌≡◌, ◌⊎◌, ℕ, ◌<◌, ◌≤◌, length, List, IfSome, IsSomeAnd, Option, Some, None, option_map}
use Rattle.std.specs.declared.io.ErrorKind.{ErrorKind}
use Rattle.pesp_shell.specs.declared.arguments.Settings.{Settings}
use Rattle.pesp_shell.specs.declared.run_fault.Source.{Source}
use Rattle.pesp_shell.specs.declared.run_fault.Source.TheVariants as source
use Rattle.pesp_shell_main.specs.declared.fault.Fault.{Fault}
use Rattle.pesp_shell_main.specs.declared.fault.Fault.TheVariants as fault
use Rattle.pesp_shell_main.specs.declared.file_bytes.FileBytes.{FileBytes}
use Rattle.pesp_shell_main.specs.Faults.{fault_of_kind}

-- the most bytes that a file may have
abbrev pub longest_file : ℕ
longest_file = 67108864

-- what calls say of files: which file a path opened and the length that this tells, how opening a path failed, the bytes of a file where they are known, and how reading it failed
pub record FileSystem (F : Type 0) : Type 1 where
  pub opens : List ℕ → F → ℕ → Type 0
  pub refuses : List ℕ → ErrorKind → Type 0
  pub bytes : F → Option (List ℕ)
  pub fails : F → ErrorKind → Type 0

abbrev pub file_system : {F : Type 0} → (List ℕ → F → ℕ → Type 0) → (List ℕ → ErrorKind → Type 0) → (F → Option (List ℕ)) → (F → ErrorKind → Type 0) → FileSystem F
file_system opens refuses bytes fails = record { opens = opens; refuses = refuses; bytes = bytes; fails = fails }

-- the file of the path gave these bytes: all that it had, as it tells, and no more than a file may have
pub record Gave {F : Type 0} (fs : FileSystem F) (path bytes : List ℕ) : Type 0 where
  pub file : F
  pub told : ℕ
  pub opened : fs.opens path file told
  pub whole : IfSome (fs.bytes file) (λ all. bytes ≡ all)
  pub few : length bytes ≤ longest_file

-- no bytes for no path, and for a path those that its file gave
abbrev pub IsGiven : {F : Type 0} → FileSystem F → Option (List ℕ) → Option (Vec ℕ) → Type 0
IsGiven fs None bytes = bytes ≡ None
IsGiven fs (Some path) bytes = IsSomeAnd bytes (λ v. Gave fs path v.items)

-- the paths of the settings
abbrev pub activities_path : Settings → Option (List ℕ)
activities_path settings = option_map (λ path. path.now) settings.activities

abbrev pub fixed_path : Settings → Option (List ℕ)
fixed_path settings = option_map (λ path. path.now) settings.fixed

abbrev pub times_path : Settings → Option (List ℕ)
times_path settings = option_map (λ path. path.now) settings.times

-- each file is that of its own path in the settings
pub record AreRead {F : Type 0} (fs : FileSystem F) (settings : Settings) (files : FileBytes) : Type 0 where
  pub activities : IsGiven fs (activities_path settings) files.activities
  pub fixed : IsGiven fs (fixed_path settings) files.fixed
  pub times : IsGiven fs (times_path settings) files.times

-- opening the path failed, or reading its file, and the fault is of that kind
abbrev pub IsUnreadable : {F : Type 0} → FileSystem F → Source → List ℕ → Fault → Type 0
IsUnreadable {F} fs source path found =
    (kind : ErrorKind) × (found ≡ fault_of_kind source kind)
    × (fs.refuses path kind ⊎ ((file : F) × (told : ℕ) × fs.opens path file told × (told ≤ longest_file) × fs.fails file kind))

-- the file of the path tells more bytes than a file may have, or has them
abbrev pub IsTooLong : {F : Type 0} → FileSystem F → Source → List ℕ → Fault → Type 0
IsTooLong {F} fs source path found =
    (found ≡ fault.TooLong source) × (file : F) × (told : ℕ) × fs.opens path file told
    × ((longest_file < told) ⊎ IfSome (fs.bytes file) (λ all. longest_file < length all))

-- the file of the path was opened, and there is no room for its bytes
abbrev pub IsWithoutRoom : {F : Type 0} → FileSystem F → List ℕ → Fault → Type 0
IsWithoutRoom {F} fs path found =
    (found ≡ fault.Memory 0) × (file : F) × (told : ℕ) × fs.opens path file told × (told ≤ longest_file)

-- why the file of the path gave no bytes
abbrev pub IsFaultOf : {F : Type 0} → FileSystem F → Source → List ℕ → Fault → Type 0
IsFaultOf fs source path found =
    IsUnreadable fs source path found ⊎ (IsTooLong fs source path found ⊎ IsWithoutRoom fs path found)

-- the file gave its bytes, or none is named
abbrev pub WasRead : {F : Type 0} → FileSystem F → Option (List ℕ) → Type 0
WasRead fs path = (bytes : Option (Vec ℕ)) × IsGiven fs path bytes

-- this file is named, and gave this fault
abbrev pub HasFault : {F : Type 0} → FileSystem F → Source → Option (List ℕ) → Fault → Type 0
HasFault fs source path found = IsSomeAnd path (λ p. IsFaultOf fs source p found)

-- the first file that gave no bytes gave this fault, in the order activities, fixed times, times
abbrev pub IsFirstUnread : {F : Type 0} → FileSystem F → Settings → Fault → Type 0
IsFirstUnread fs settings found =
    HasFault fs source.Activities (activities_path settings) found
    ⊎ ((WasRead fs (activities_path settings) × HasFault fs source.Fixed (fixed_path settings) found)
    ⊎ (WasRead fs (activities_path settings) × WasRead fs (fixed_path settings) × HasFault fs source.Times (times_path settings) found))
