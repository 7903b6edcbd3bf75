-- A record without fields is blank, and else its first byte decides.
use Rattle.std.proofs.Common.{◌∙◌, sym, ap}
use Rattle.std.specs.Prelude.{not}
use Rattle.pesplib_reader.proofs.FieldLemmas.{spoken_if, unspoken_if}
use Rattle.pesplib_reader.proofs.records.is_spoken.Goals as goal

pub returns-then-not-is_empty : goal.returns-then-not-is_empty
returns-then-not-is_empty c = spoken_if c.args.fields.now c.first_byte.result (sym c.is_empty.ensures ∙ c.if-not-is_empty.true) c.first_byte.ensures

pub returns-else-not-is_empty : goal.returns-else-not-is_empty
returns-else-not-is_empty c = ap not c.if-not-is_empty.false ∙ unspoken_if c.args.fields.now (sym c.is_empty.ensures ∙ c.if-not-is_empty.false)
