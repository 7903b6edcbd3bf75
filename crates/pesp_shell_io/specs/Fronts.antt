-- What stands at the front of the bytes that are held of a source.
use Rattle.std.specs.Prelude.{◌≡◌, ◌<◌, ◌≤◌, ℕ, List, ◌++◌, length, slice_index, take}
use Rattle.pesp_shell_io.specs.Lines.{IsUncut, is_line_feed, longest_line}
use Rattle.pesp_shell_io.specs.declared.line_reader.Front.{Front}
use Rattle.pesp_shell_io.specs.declared.line_reader.Front.TheVariants.{Line, Last, TooLong}

-- a line that may go on: no line feed, and no more bytes than a line may have
abbrev pub IsUnended : List ℕ → Type 0
IsUnended held = IsUncut is_line_feed held × (length held ≤ longest_line)

-- a line of so many bytes and its line feed; or a line that may go on; or more bytes of a line than one may have
abbrev pub IsFront : List ℕ → Front → Type 0
IsFront held (Line n) = (n < length held) × (slice_index held n ≡ 10) × IsUncut is_line_feed (take n held) × (n ≤ longest_line)
IsFront held Last = IsUnended held
IsFront held TooLong = (line : List ℕ) × (rest : List ℕ) × (held ≡ line ++ rest) × IsUncut is_line_feed line × (longest_line < length line)
