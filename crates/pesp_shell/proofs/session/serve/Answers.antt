-- Before the first line nothing is read or written; and what answers the lines says the rest.
use Rattle.std.proofs.Common.{rules}
use Rattle.pesp_shell_replies.specs.Legal.{work_of}
use Rattle.pesp_shell.specs.Runs.{marks}
use Rattle.pesp_shell.proofs.SessionLemmas.{not_begun}
use Rattle.pesp_shell.proofs.session.serve.Goals as goal

pub returns-in_default : goal.returns-in_default
returns-in_default g c = not_begun (work_of c.args.bench) (g.R.ByteSource.left c.args.reader.now) (g.W.ByteSink.written c.args.writer.now)
    (marks (g.R.ByteSource.at_end c.args.reader.now) (g.R.ByteSource.failed c.args.reader.now) (g.W.ByteSink.failed c.args.writer.now) (g.W.ByteSink.passed_on c.args.writer.now))
    (c.requires.reader, c.requires.writer)

-- by search, and named so that a wrong body is refused here at once
pub returns : goal.returns
returns g c = search rules
