-- A row that is good by itself is taken as its event and time are.
use Rattle.std.proofs.Common.{rules, ◌≡◌, ◌∙◌, sym, ap, SFits, w64}
use Rattle.std.proofs.lemmas.Int.{to_z-of_z}
use Rattle.pesplib_reader.specs.Left.{trimmed_fields}
use Rattle.pesplib_reader.specs.RowFields.{time_fields}
use Rattle.pesplib_reader.specs.Rows.{time_faults, field, natural, value}
use Rattle.pesplib_reader.specs.Taking.{row_taken}
use Rattle.pesplib_reader.specs.Reading.{event_taken, event_faults, time_faults_after, with_time_row}
use Rattle.pesplib_reader.proofs.TakingLemmas.{good_row, bad_row, value_is}
use Rattle.pesplib_reader.proofs.times.take_time.Goals as goal

pub returns-in_err-event-clause-fault : goal.returns-in_err-event-clause-fault
returns-in_err-event-clause-fault c =
    let stands = bad_row time_faults (λ m fs. event_faults m (natural (field fs 1))) with_time_row c.args.timetable.now (trimmed_fields c.args.fields.now) (time_fields c.in-Some.row) (natural c.in-Some.row.event.now, value c.in-Some.row.time.now) c.in-Some.ensures c.in_err-event.field-0.0 c.in_err-event.ensures in
    rw stands (search rules)

stands : (c : goal.After-add_time) → row_taken time_faults_after with_time_row c.args.timetable.now (trimmed_fields c.args.fields.now) ≡ event_taken c.args.timetable.now c.in_ok-event.event c.in_ok-event.time
stands c =
    good_row time_faults (λ m fs. event_faults m (natural (field fs 1))) with_time_row c.args.timetable.now (trimmed_fields c.args.fields.now) (time_fields c.in-Some.row) (natural c.in-Some.row.event.now, value c.in-Some.row.time.now) c.in-Some.ensures (c.in_ok-event.event, c.in_ok-event.time) c.in_ok-event.ensures
    ∙ ap (λ (event, time). event_taken c.args.timetable.now event time) (sym (value_is (time_faults (time_fields c.in-Some.row)) (natural c.in-Some.row.event.now, value c.in-Some.row.time.now) (c.in_ok-event.event, c.in_ok-event.time) c.in_ok-event.ensures))

pub returns-clause-ok : goal.returns-clause-ok
returns-clause-ok c =
    let fits : SFits w64 c.in_ok-event.time = search rules in
    rw (stands c) (simp to_z-of_z at c.add_time.ensures.ok)

pub returns-clause-fault : goal.returns-clause-fault
returns-clause-fault c =
    let fits : SFits w64 c.in_ok-event.time = search rules in
    rw (stands c) (simp to_z-of_z at c.add_time.ensures.fault)
