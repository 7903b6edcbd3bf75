-- A number within its limits is the one that the text writes.
use Rattle.std.proofs.Common.{rules, ◌≡◌}
use Rattle.pesplib_reader.proofs.RowLemmas.{number_found}
use Rattle.pesplib_reader.specs.Rows.{value}
use Rattle.pesplib_reader.proofs.rows.number_field.Goals as goal

pub returns-in-Ok-clause-value : goal.returns-in-Ok-clause-value
returns-in-Ok-clause-value c =
    let found : c.in-Ok.number ≡ value c.args.text.now = number_found _ _ _ c.args.text.now c.in-Ok.ensures.number in
    search (rules, found)
