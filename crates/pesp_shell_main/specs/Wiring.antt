-- The files of the program, as what it answers over them names them.
use Rattle.std.specs.Global.{Vec}
use Rattle.std.specs.Prelude.{ℕ, List, Option, option_map}
use Rattle.pesp_shell.specs.Opening.{Files, files, given}
use Rattle.pesp_shell_main.specs.declared.file_bytes.FileBytes.{FileBytes}

-- the bytes of a file, where it was named
abbrev pub bytes_of : Option (Vec ℕ) → Option (List ℕ)
bytes_of file = option_map (λ v. v.items) file

-- each file in its own place: the activities or nothing, the fixed times, the times
abbrev pub files_of : ℕ → FileBytes → Files
files_of period f = files period (given (bytes_of f.activities)) (bytes_of f.fixed) (bytes_of f.times)
