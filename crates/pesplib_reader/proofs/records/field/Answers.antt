-- A field of a record is trimmed where it is there.
use Rattle.std.proofs.Common.{◌∙◌}
use Rattle.pesplib_reader.proofs.FieldLemmas.{field_found, no_field_found}
use Rattle.pesplib_reader.proofs.records.field.Goals as goal

pub returns-in-Some : goal.returns-in-Some
returns-in-Some c = c.trim.ensures ∙ field_found c.args.fields.now c.args.place c.in-Some.text.now c.in-Some.ensures.value

pub returns-in-None : goal.returns-in-None
returns-in-None c = no_field_found c.args.fields.now c.args.place c.in-None.ensures.value
