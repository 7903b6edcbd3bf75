-- Bytes that are held in a part of a buffer.
use Rattle.std.specs.Prelude.{◌≡◌, ◌≤◌, ℕ, List, length}
use Rattle.pesp_shell_io.specs.declared.line_reader.TheConstants.{ROOM}

-- the part lies in the buffer, whose length stays
pub record IsHeld (buffer : List ℕ) (start end : ℕ) : Type 0 where
  pub order : start ≤ end
  pub inside : end ≤ length buffer
  pub long : length buffer ≡ ROOM
