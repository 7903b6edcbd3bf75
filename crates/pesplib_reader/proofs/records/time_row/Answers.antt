-- Two fields are those of the row, and trimming leaves their count.
use Rattle.std.proofs.Common.{◌∙◌, sym}
use Rattle.pesplib_reader.specs.Left.{trimmed_fields}
use Rattle.pesplib_reader.proofs.FieldLemmas.{length-trimmed, two_fields}
use Rattle.pesplib_reader.proofs.records.time_row.Goals as goal

pub returns-then-len-ne2 : goal.returns-then-len-ne2
returns-then-len-ne2 c two = c.if-len-ne2.true (c.len.ensures ∙ sym (length-trimmed c.args.fields.now) ∙ two)

pub returns : goal.returns
returns c =
    rw (c.field.ensures, c.field-2.ensures)
    (two_fields (trimmed_fields c.args.fields.now) (length-trimmed c.args.fields.now ∙ sym c.len.ensures ∙ c.if-len-ne2.false))
