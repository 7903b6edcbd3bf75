-- A record that is read is the next row, or one that is passed over.
use Rattle.std.proofs.Common.{◌∙◌, sym}
use Rattle.std.proofs.lemmas.Result.{err_from_is_err_and}
use Rattle.pesplib_reader.proofs.LeftLemmas.{IsOneMore, next_row, nothing_left, skipped_more, wanted}
use Rattle.pesplib_reader.proofs.records.Records.next.Goals as goal

pub returns-in_err-read-clause-want : goal.returns-in_err-read-clause-want
returns-in_err-read-clause-want c =
    let p = err_from_is_err_and c.from_residual.result c.from_residual.ensures.1 in
    rw (p.1, p.2) (wanted c.args.self.now c.records.self c.in_err-read.field-0.0 c.records.invariant c.in_err-read.ensures.fault)

pub returns-then-is_row-clause-found : goal.returns-then-is_row-clause-found
returns-then-is_row-clause-found c _ =
    let more : IsOneMore c.records.self c.read.new.self = record {
      reading = c.in_ok-read.ensures.reading c.if-branch.true;
      fields = (c.in_ok-read.ensures.next c.if-branch.true).0;
      left = (c.in_ok-read.ensures.next c.if-branch.true).1;
      cut = (c.in_ok-read.ensures.next c.if-branch.true).2;
      taken = c.in_ok-read.ensures.taken c.if-branch.true;
      begun = c.in_ok-read.ensures.begun;
    } in
    next_row c.args.self.now c.records.self c.read.new.self c.is_row.new.self c.records.invariant more c.is_row.ensures.changes (sym c.is_row.ensures.row ∙ c.if-is_row.true)

pub records-preserved : goal.records-preserved
records-preserved c =
    let more : IsOneMore c.records.self c.read.new.self = record {
      reading = c.in_ok-read.ensures.reading c.if-branch.true;
      fields = (c.in_ok-read.ensures.next c.if-branch.true).0;
      left = (c.in_ok-read.ensures.next c.if-branch.true).1;
      cut = (c.in_ok-read.ensures.next c.if-branch.true).2;
      taken = c.in_ok-read.ensures.taken c.if-branch.true;
      begun = c.in_ok-read.ensures.begun;
    } in
    skipped_more c.args.self.now c.records.self c.read.new.self c.is_row.new.self c.records.invariant more c.is_row.ensures.changes (sym c.is_row.ensures.row ∙ c.if-is_row.false)

pub returns-clause-none : goal.returns-clause-none
returns-clause-none c _ = c.records.invariant.rows ∙ nothing_left c.records.self (c.in_ok-read.ensures.none c.if-branch.false)
