-- Want of memory stands where the reading stopped, and a fault is that of the row that was read last.
use Rattle.std.proofs.Common.{◌≤◌, length, sym, subst, ap, arith}
use Rattle.std.proofs.lemmas.Result.{err_from_is_err_and}
use Rattle.pesp_base.specs.Limits as limits
use Rattle.pesp_instance.specs.Edited.{empty_network}
use Rattle.pesp_instance.specs.Network.{Network}
use Rattle.pesplib_reader.specs.Reading.{activity_faults_after, with_activity_row}
use Rattle.pesplib_reader.proofs.TakingLemmas.{IsReadTo, begun, ended, passed, stopped_at, wanting}
use Rattle.pesplib_reader.proofs.activities.read_one_by_one.Goals as goal

pub returns-in_err-next-clause-fault : goal.returns-in_err-next-clause-fault
returns-in_err-next-clause-fault c =
    let p = err_from_is_err_and c.from_residual.result c.from_residual.ensures.1 in
    rw (p.1, p.2) (wanting activity_faults_after with_activity_row (empty_network c.args.period) c.args.bytes.now c.rows.instance c.rows.records c.in_err-next.field-0.0 c.rows.invariant.0 c.in_err-next.ensures.want)

pub returns-in-Err-clause-fault : goal.returns-in-Err-clause-fault
returns-in-Err-clause-fault c =
    stopped_at activity_faults_after with_activity_row (empty_network c.args.period) c.args.bytes.now c.rows.instance c.rows.records c.next.new.self c.rows.invariant.0 (c.in_ok-next.ensures.found c.if-branch.true)
    c.in-Err.kind c.fault.result (rw c.record.ensures at c.in-Err.ensures.fault) c.fault.ensures

-- The others are found by search, and named so that they are found at once.
pub rows-init : goal.rows-init
rows-init c =
    let empty = c.new-instance.ensures.value in
    let begin = begun activity_faults_after with_activity_row (empty_network c.args.period) c.args.bytes.now c.new-records.result c.new-records.ensures.reading c.new-records.ensures.rows c.new-records.ensures.count in
    (subst (λ x. IsReadTo activity_faults_after with_activity_row (empty_network c.args.period) c.args.bytes.now x c.new-records.result) (sym empty) begin, subst (λ (I : Network). length I.events ≤ limits.max_events I.period) (sym empty) (omega arith))

pub returns-in_err-next-clause-ok : goal.returns-in_err-next-clause-ok
returns-in_err-next-clause-ok c =
    let p = err_from_is_err_and c.from_residual.result c.from_residual.ensures.1 in
    rw p.1 tt

pub rows-smaller : goal.rows-smaller
rows-smaller c =
    let more = c.in_ok-next.ensures.found c.if-branch.true in
    omega (arith, ap (λ xs. length xs) more.next)

pub rows-preserved : goal.rows-preserved
rows-preserved c =
    let more = c.in_ok-next.ensures.found c.if-branch.true in
    let pass = passed activity_faults_after with_activity_row (empty_network c.args.period) c.args.bytes.now c.rows.instance c.rows.records c.next.new.self c.rows.invariant.0 more c.take_activity.new.instance (rw c.record.ensures at c.in_default.ensures.ok) in
    (pass, c.in_default.ensures.few)

pub returns-clause-ok : goal.returns-clause-ok
returns-clause-ok c = ended activity_faults_after with_activity_row (empty_network c.args.period) c.args.bytes.now c.rows.instance c.rows.records c.rows.invariant.0 (c.in_ok-next.ensures.none c.if-branch.false)
