-- The fields of rows as lists.
use Rattle.std.specs.Prelude.{ℕ, List, [], ◌∷◌}
use Rattle.pesplib_reader.specs.declared.rows.ActivityRow.{ActivityRow}
use Rattle.pesplib_reader.specs.declared.rows.TimeRow.{TimeRow}

abbrev pub activity_fields : ActivityRow → List (List ℕ)
activity_fields row = row.number.now ∷ row.from.now ∷ row.to.now ∷ row.lower.now ∷ row.upper.now ∷ row.weight.now ∷ []

abbrev pub time_fields : TimeRow → List (List ℕ)
time_fields row = row.event.now ∷ row.time.now ∷ []
