-- Each row without a fault by itself is gathered, and all of them are put in at the end, or where a row has one or is one too many.
use Rattle.std.proofs.Common.{◌≡◌, ◌++◌, ◌∷◌, [], true, false, length, refl, sym, ap, ◌∙◌, arith}
use Rattle.std.proofs.lemmas.List.{append_assoc}
use Rattle.pesp_instance.specs.Edited.{empty_network}
use Rattle.pesplib_reader.specs.Left.{IsNextRow, row_of, rows_left}
use Rattle.pesplib_reader.specs.Reading.{activity_faults_after, with_activity_row}
use Rattle.pesplib_reader.specs.Taking.{IsTakeFault, row_taken}
use Rattle.pesplib_reader.proofs.GatheredLemmas.{at_error, at_value, filled_by, gathered_to, none_gathered, one_gathered}
use Rattle.pesplib_reader.proofs.TakingLemmas.{ended, stopped_at}
use Rattle.pesplib_reader.proofs.activities.read_at_once.Goals as goal

pub rows-init : goal.rows-init
rows-init c = (c.new-records.ensures.reading, c.new-records.ensures.count, [], c.new-records.ensures.rows, rw c.new-activities.ensures.items (none_gathered c.args.period c.new-instance.result c.new-instance.ensures.value))

pub next-requires : goal.next-requires
next-requires c = c.rows.invariant.0

pub rows-preserved : goal.rows-preserved
rows-preserved c =
    let more : IsNextRow c.rows.records c.next.new.self = at_value (λ found. found ≡ true → IsNextRow c.rows.records c.next.new.self) c.next.result c.in_ok-ok.field-0 (sym c.ok.ensures.value ∙ c.in_ok-ok.was) c.next.ensures.found c.if-branch.true in
    let front = c.rows.invariant.2 in
    let row = row_of c.next.new.self in (
      more.reading,
      more.count ∙ c.rows.invariant.1,
      front ++ row ∷ [],
      append_assoc front (row ∷ []) (rows_left c.next.new.self) ∙ ap (λ rows. front ++ rows) (sym more.next) ∙ c.rows.invariant.3,
      one_gathered c.args.period front c.rows.activities.items c.gather.new.activities.items c.rows.instance c.gather.new.instance row c.in-Ok.activity c.rows.invariant.4 (rw c.record.ensures at c.in-Ok.ensures) (c.if-not-gather.ensures.ends refl) (c.if-not-gather.ensures.gathered refl),
    )

pub rows-smaller : goal.rows-smaller
rows-smaller c =
    let more : IsNextRow c.rows.records c.next.new.self = at_value (λ found. found ≡ true → IsNextRow c.rows.records c.next.new.self) c.next.result c.in_ok-ok.field-0 (sym c.ok.ensures.value ∙ c.in_ok-ok.was) c.next.ensures.found c.if-branch.true in
    omega (arith, ap (λ xs. length xs) more.next)

-- the rows before this one are taken, and it falls after them
pub returns-in_default-clause-fault : goal.returns-in_default-clause-fault
returns-in_default-clause-fault c =
    let more : IsNextRow c.rows.records c.next.new.self = at_value (λ found. found ≡ true → IsNextRow c.rows.records c.next.new.self) c.next.result c.in_ok-ok.field-0 (sym c.ok.ensures.value ∙ c.in_ok-ok.was) c.next.ensures.found c.if-branch.true in
    let before = c.in_ok-before-in_default.before in
    let filled = filled_by c.rows.instance c.rows.activities.items c.with_activities.result c.in_ok-ok-in_default.field-0 before (sym c.ok-in_default.ensures.value ∙ c.in_ok-ok-in_default.was) c.in_ok-before-in_default.was c.with_activities.ensures.filled in
    let taken = gathered_to c.args.period c.args.bytes.now c.rows.invariant.2 c.rows.activities.items c.rows.instance before c.rows.records c.rows.invariant.4 filled c.rows.invariant.0 c.rows.invariant.1 c.rows.invariant.3 in
    let kind = c.in_ok-kind-in_default.kind in
    let falls : IsTakeFault (row_taken activity_faults_after with_activity_row before (row_of c.next.new.self).fields) kind =
    at_error (IsTakeFault (row_taken activity_faults_after with_activity_row before (row_of c.next.new.self).fields)) c.take_activity.result kind (sym c.err.ensures.value ∙ c.in_ok-kind-in_default.was) (rw c.record-in_default.ensures at c.take_activity.ensures.fault) in
    stopped_at activity_faults_after with_activity_row (empty_network c.args.period) c.args.bytes.now before c.rows.records c.next.new.self taken more kind c.fault.result falls c.fault.ensures

-- all rows are taken
pub returns-clause-ok : goal.returns-clause-ok
returns-clause-ok c =
    let none : rows_left c.rows.records ≡ [] = at_value (λ found. found ≡ false → rows_left c.rows.records ≡ []) c.next.result c.in_ok-ok.field-0 (sym c.ok.ensures.value ∙ c.in_ok-ok.was) c.next.ensures.none c.if-branch.false in
    let all = c.in_ok-branch.field-0 in
    let filled = filled_by c.rows.instance c.rows.activities.items c.with_activities-2.result c.in_ok-ok-2.field-0 all (sym c.ok-2.ensures.value ∙ c.in_ok-ok-2.was) c.in_ok-branch.was c.with_activities-2.ensures.filled in
    let taken = gathered_to c.args.period c.args.bytes.now c.rows.invariant.2 c.rows.activities.items c.rows.instance all c.rows.records c.rows.invariant.4 filled c.rows.invariant.0 c.rows.invariant.1 c.rows.invariant.3 in
    ended activity_faults_after with_activity_row (empty_network c.args.period) c.args.bytes.now all c.rows.records taken none
