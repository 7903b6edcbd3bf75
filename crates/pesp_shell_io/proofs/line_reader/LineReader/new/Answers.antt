-- A part that ends where it begins has no byte.
use Rattle.std.proofs.Common.{refl}
use Rattle.pesp_shell_io.proofs.line_reader.LineReader.new.Goals as goal

pub returns : goal.returns
returns c = refl
