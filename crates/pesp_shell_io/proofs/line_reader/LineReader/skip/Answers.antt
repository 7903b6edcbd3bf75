-- A part that begins later is the part without its first bytes.
use Rattle.std.proofs.Common.{◌≡◌, ℕ, ◌+◌, List, drop, take, slice_range, sym, ap, ◌∙◌, drop-drop}
use Rattle.std.proofs.lemmas.Slice.{between_is}
use Rattle.pesp_shell_io.proofs.line_reader.LineReader.skip.Goals as goal

later : (bytes : List ℕ) (start end count : ℕ) → slice_range bytes (start + count) end ≡ drop count (slice_range bytes start end)
later bytes start end count = between_is bytes (start + count) end ∙ sym (drop-drop count start (take end bytes)) ∙ ap (drop count) (sym (between_is bytes start end))

pub returns : goal.returns
returns c = later c.self.inside.buffer.items c.self.inside.start c.self.inside.end c.args.count ∙ ap (drop c.args.count) c.self.view_is
