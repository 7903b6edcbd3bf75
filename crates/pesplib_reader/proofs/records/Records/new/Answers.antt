-- A reader at the start of a text has all its records left.
use Rattle.std.proofs.Common.{zero-add, ap, ◌∙◌, arith, length}
use Rattle.pesplib_reader.specs.Left.{count_of, rows_left}
use Rattle.pesplib_reader.specs.Records.{spoken_from, without_header}
use Rattle.pesplib_reader.proofs.CsvLemmas.{opened_between, opened_left, opened_short}
use Rattle.pesplib_reader.proofs.records.Records.new.Goals as goal

pub returns-clause-reading : goal.returns-clause-reading
returns-clause-reading c =
    let opened = c.reader.ensures in
    record {
      reader = opened_between c.reader.result c.args.bytes.now opened.source opened.start opened.plain opened.flexible opened.headers opened.no_header;
      room = omega (arith, opened_short c.reader.result c.args.bytes.now opened.source opened.start);
    }

pub returns-clause-rows : goal.returns-clause-rows
unfolding rows_left
returns-clause-rows c =
    let opened = c.reader.ensures in
    ap (λ rs. without_header (spoken_from 1 rs)) (opened_left c.reader.result c.args.bytes.now opened.source opened.start opened.config)

pub returns-clause-count : goal.returns-clause-count
unfolding count_of
returns-clause-count c =
    let opened = c.reader.ensures in
    zero-add _ ∙ ap length (opened_left c.reader.result c.args.bytes.now opened.source opened.start opened.config)
