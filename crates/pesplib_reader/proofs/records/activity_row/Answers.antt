-- Six fields are those of the row, and trimming leaves their count.
use Rattle.std.proofs.Common.{◌∙◌, sym}
use Rattle.pesplib_reader.specs.Left.{trimmed_fields}
use Rattle.pesplib_reader.proofs.FieldLemmas.{length-trimmed, six_fields}
use Rattle.pesplib_reader.proofs.records.activity_row.Goals as goal

pub returns-then-len-ne6 : goal.returns-then-len-ne6
returns-then-len-ne6 c six = c.if-len-ne6.true (c.len.ensures ∙ sym (length-trimmed c.args.fields.now) ∙ six)

pub returns : goal.returns
returns c =
    rw (c.field.ensures, c.field-2.ensures, c.field-3.ensures, c.field-4.ensures, c.field-5.ensures, c.field-6.ensures)
    (six_fields (trimmed_fields c.args.fields.now) (length-trimmed c.args.fields.now ∙ sym c.len.ensures ∙ c.if-len-ne6.false))
