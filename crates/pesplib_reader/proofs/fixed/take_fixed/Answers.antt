-- A row that is good by itself is taken as its event and time are.
use Rattle.std.proofs.Common.{rules, ◌≡◌, ◌∙◌, sym, ap, SFits, w64}
use Rattle.std.proofs.lemmas.Int.{to_z-of_z}
use Rattle.pesplib_reader.specs.Left.{trimmed_fields}
use Rattle.pesplib_reader.specs.RowFields.{time_fields}
use Rattle.pesplib_reader.specs.Rows.{time_faults, field, natural, value}
use Rattle.pesplib_reader.specs.Taking.{row_taken}
use Rattle.pesplib_reader.specs.Reading.{fixed_taken, fixed_faults, fixed_faults_after, with_time_row}
use Rattle.pesplib_reader.proofs.TakingLemmas.{good_row, bad_row, value_is}
use Rattle.pesplib_reader.proofs.fixed.take_fixed.Goals as goal

pub returns-in_err-event-clause-fault : goal.returns-in_err-event-clause-fault
returns-in_err-event-clause-fault c =
    let stands = bad_row time_faults (λ m fs. fixed_faults c.args.instance.now m (natural (field fs 1))) with_time_row c.args.times.now (trimmed_fields c.args.fields.now) (time_fields c.in-Some.row) (natural c.in-Some.row.event.now, value c.in-Some.row.time.now) c.in-Some.ensures c.in_err-event.field-0.0 c.in_err-event.ensures in
    rw stands (search rules)

stands : (c : goal.After-add_fixed) → row_taken (fixed_faults_after c.args.instance.now) with_time_row c.args.times.now (trimmed_fields c.args.fields.now) ≡ fixed_taken c.args.instance.now c.args.times.now c.in_ok-event.event c.in_ok-event.time
stands c =
    good_row time_faults (λ m fs. fixed_faults c.args.instance.now m (natural (field fs 1))) with_time_row c.args.times.now (trimmed_fields c.args.fields.now) (time_fields c.in-Some.row) (natural c.in-Some.row.event.now, value c.in-Some.row.time.now) c.in-Some.ensures (c.in_ok-event.event, c.in_ok-event.time) c.in_ok-event.ensures
    ∙ ap (λ (event, time). fixed_taken c.args.instance.now c.args.times.now event time) (sym (value_is (time_faults (time_fields c.in-Some.row)) (natural c.in-Some.row.event.now, value c.in-Some.row.time.now) (c.in_ok-event.event, c.in_ok-event.time) c.in_ok-event.ensures))

pub returns-clause-ok : goal.returns-clause-ok
returns-clause-ok c =
    let fits : SFits w64 c.in_ok-event.time = search rules in
    rw (stands c) (simp to_z-of_z at c.add_fixed.ensures.ok)

pub returns-clause-fault : goal.returns-clause-fault
returns-clause-fault c =
    let fits : SFits w64 c.in_ok-event.time = search rules in
    rw (stands c) (simp to_z-of_z at c.add_fixed.ensures.fault)
