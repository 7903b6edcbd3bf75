-- A read of `csv` takes the first of the records that are left.
use Rattle.csv.specs.Records.{fields_of}
use Rattle.pesplib_reader.proofs.CsvLemmas.{answered_between, answered_next, answered_none, answered_shorter, failed_of_memory}
use Rattle.pesplib_reader.proofs.records.read_record.Goals as goal

pub returns-clause-none : goal.returns-clause-none
returns-clause-none c = answered_none c.args.reader.now c.read_byte_record.new.self (fields_of c.read_byte_record.new.row) c.requires c.read_byte_record.result c.read_byte_record.ensures.reads

pub returns-clause-next : goal.returns-clause-next
returns-clause-next c = answered_next c.args.reader.now c.read_byte_record.new.self (fields_of c.read_byte_record.new.row) c.requires c.read_byte_record.result c.read_byte_record.ensures.reads

pub returns-clause-between : goal.returns-clause-between
returns-clause-between c = answered_between c.args.reader.now c.read_byte_record.new.self (fields_of c.read_byte_record.new.row) c.requires c.read_byte_record.result c.read_byte_record.ensures.reads c.read_byte_record.ensures.ready c.read_byte_record.ensures.flexible

pub returns-clause-shorter : goal.returns-clause-shorter
returns-clause-shorter c = answered_shorter c.args.reader.now c.read_byte_record.new.self (fields_of c.read_byte_record.new.row) c.requires c.read_byte_record.result c.read_byte_record.ensures.reads

pub returns-clause-memory : goal.returns-clause-memory
returns-clause-memory c = failed_of_memory c.args.reader.now c.read_byte_record.new.self c.requires c.read_byte_record.result c.read_byte_record.ensures.why
