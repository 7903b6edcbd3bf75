-- A row that is good by itself is taken as its activity is.
use Rattle.std.proofs.Common.{rules, ◌≡◌, ◌∙◌, refl, sym, ap}
use Rattle.pesplib_reader.specs.Left.{trimmed_fields}
use Rattle.pesplib_reader.specs.Rows.{activity_faults, activity_in}
use Rattle.pesplib_reader.specs.Taking.{row_taken}
use Rattle.pesplib_reader.specs.Reading.{activity_faults_after, activity_taken, instance_faults, with_activity_row}
use Rattle.pesplib_reader.proofs.TakingLemmas.{good_row, bad_row, value_is}
use Rattle.pesplib_reader.proofs.activities.take_activity.Goals as goal

pub returns-in_err-activity-clause-fault : goal.returns-in_err-activity-clause-fault
returns-in_err-activity-clause-fault c =
    let fields = trimmed_fields c.args.fields.now in
    let stands = bad_row activity_faults (λ I fs. instance_faults I (activity_in fs)) with_activity_row c.args.instance.now fields fields (activity_in fields) refl c.in_err-activity.field-0.0 c.in_err-activity.ensures in
    rw stands (search rules)

stands : (c : goal.After-add_activity) → row_taken activity_faults_after with_activity_row c.args.instance.now (trimmed_fields c.args.fields.now) ≡ activity_taken c.args.instance.now c.in_ok-activity.activity
stands c =
    let fields = trimmed_fields c.args.fields.now in
    good_row activity_faults (λ I fs. instance_faults I (activity_in fs)) with_activity_row c.args.instance.now fields fields (activity_in fields) refl c.in_ok-activity.activity c.in_ok-activity.ensures
    ∙ ap (activity_taken c.args.instance.now) (sym (value_is (activity_faults fields) (activity_in fields) c.in_ok-activity.activity c.in_ok-activity.ensures))

pub returns-clause-ok : goal.returns-clause-ok
returns-clause-ok c = rw (stands c) c.add_activity.ensures.ok

pub returns-clause-fault : goal.returns-clause-fault
returns-clause-fault c = rw (stands c) c.add_activity.ensures.fault
