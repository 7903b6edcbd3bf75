-- The last field stays where it is not empty.
use Rattle.std.proofs.Common.{◌-◌, ◌∙◌, length, sym, ap, arith}
use Rattle.std.proofs.lemmas.Bool.{eqb-true, eqb-false}
use Rattle.pesplib_reader.proofs.FieldLemmas.{cut_end, same_end, empty_end}
use Rattle.pesplib_reader.proofs.records.drop_empty_end.Goals as goal
use Rattle.pesplib_reader.proofs.records.drop_empty_end.Goals.{else-count-gt0-via-then-count-gt0+else-is_empty, else-count-gt0-via-else-count-gt0}

pub returns-then-is_empty : goal.returns-then-is_empty
returns-then-is_empty c =
    cut_end c.args.fields.now c.truncate.new.self (c.len-count.result - 1) (omega arith) c.truncate.ensures.fields
    (ap length (sym c.field.ensures) ∙ eqb-true (length c.field.result.now) 0 (sym c.is_empty.ensures ∙ c.if-is_empty.true))

pub returns-else-count-gt0 : goal.returns-else-count-gt0
returns-else-count-gt0 c =
    elim c.else-count-gt0.branch [
      | else-count-gt0-via-then-count-gt0+else-is_empty w ↦
          same_end c.args.fields.now (c.len-count.result - 1) (omega arith)
          (λ none. eqb-false (length w.field.result.now) 0 (sym w.is_empty.ensures ∙ w.if-is_empty.false) (ap length w.field.ensures ∙ none))
      | else-count-gt0-via-else-count-gt0 w ↦ empty_end c.args.fields.now (omega arith)
    ]
