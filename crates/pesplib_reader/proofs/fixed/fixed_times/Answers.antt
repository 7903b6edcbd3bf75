-- Want of memory stands where the reading stopped, and a fault is that of the row that was read last.
use Rattle.std.proofs.Common.{length, sym, subst, ap, ◌∙◌, arith}
use Rattle.std.proofs.lemmas.Result.{err_from_is_err_and}
use Rattle.pesp_tension.specs.Timetables.{no_times}
use Rattle.pesplib_reader.specs.Reading.{fixed_faults_after, with_time_row}
use Rattle.pesplib_reader.proofs.FixedLemmas.{read_fixable}
use Rattle.pesplib_reader.proofs.TakingLemmas.{IsReadTo, begun, ended, passed, stopped_at, wanting}
use Rattle.pesplib_reader.proofs.fixed.fixed_times.Goals as goal

pub returns-in_err-next-clause-fault : goal.returns-in_err-next-clause-fault
returns-in_err-next-clause-fault c =
    let p = err_from_is_err_and c.from_residual.result c.from_residual.ensures.1 in
    rw (p.1, p.2) (wanting (fixed_faults_after c.args.instance.now) with_time_row (no_times c.args.instance.now.period) c.args.bytes.now c.rows.times c.rows.records c.in_err-next.field-0.0 c.rows.invariant c.in_err-next.ensures.want)

pub returns-in-Err-clause-fault : goal.returns-in-Err-clause-fault
returns-in-Err-clause-fault c =
    stopped_at (fixed_faults_after c.args.instance.now) with_time_row (no_times c.args.instance.now.period) c.args.bytes.now c.rows.times c.rows.records c.next.new.self c.rows.invariant (c.in_ok-next.ensures.found c.if-branch.true)
    c.in-Err.kind c.fault.result (rw c.record.ensures at c.in-Err.ensures.fault) c.fault.ensures

pub returns-clause-fixable : goal.returns-clause-fixable
returns-clause-fixable c =
    read_fixable c.args.instance.now c.args.bytes.now c.rows.times (omega (arith, c.period.ensures.network.period_low))
    (ended (fixed_faults_after c.args.instance.now) with_time_row (no_times c.args.instance.now.period) c.args.bytes.now c.rows.times c.rows.records c.rows.invariant (c.in_ok-next.ensures.none c.if-branch.false))

-- The others are found by search, and named so that they are found at once.
pub rows-init : goal.rows-init
rows-init c =
    let empty = c.new-times.ensures ∙ ap (λ n. no_times n) c.period.ensures.value in
    let begin = begun (fixed_faults_after c.args.instance.now) with_time_row (no_times c.args.instance.now.period) c.args.bytes.now c.new-records.result c.new-records.ensures.reading c.new-records.ensures.rows c.new-records.ensures.count in
    subst (λ x. IsReadTo (fixed_faults_after c.args.instance.now) with_time_row (no_times c.args.instance.now.period) c.args.bytes.now x c.new-records.result) (sym empty) begin

pub returns-in_err-next-clause-ok : goal.returns-in_err-next-clause-ok
returns-in_err-next-clause-ok c =
    let p = err_from_is_err_and c.from_residual.result c.from_residual.ensures.1 in
    rw p.1 tt

pub returns-in_err-next-clause-fixable : goal.returns-in_err-next-clause-fixable
returns-in_err-next-clause-fixable c =
    let p = err_from_is_err_and c.from_residual.result c.from_residual.ensures.1 in
    rw p.1 tt

pub rows-smaller : goal.rows-smaller
rows-smaller c =
    let more = c.in_ok-next.ensures.found c.if-branch.true in
    omega (arith, ap (λ xs. length xs) more.next)

pub rows-preserved : goal.rows-preserved
rows-preserved c =
    let more = c.in_ok-next.ensures.found c.if-branch.true in
    let pass = passed (fixed_faults_after c.args.instance.now) with_time_row (no_times c.args.instance.now.period) c.args.bytes.now c.rows.times c.rows.records c.next.new.self c.rows.invariant more c.take_fixed.new.times (rw c.record.ensures at c.in_default.ensures.ok) in
    pass

pub returns-clause-ok : goal.returns-clause-ok
returns-clause-ok c = ended (fixed_faults_after c.args.instance.now) with_time_row (no_times c.args.instance.now.period) c.args.bytes.now c.rows.times c.rows.records c.rows.invariant (c.in_ok-next.ensures.none c.if-branch.false)
