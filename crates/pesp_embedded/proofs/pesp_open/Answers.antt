-- The session is of no line yet, or stays closed.
use Rattle.std.proofs.Common.{Ok, Err, ap}
use Rattle.pesp_shell_replies.specs.Legal.{work_of}
use Rattle.pesp_embedded.specs.Sessions.{work_in}
use Rattle.pesp_embedded.proofs.SessionLemmas.{begun}
use Rattle.pesp_embedded.proofs.pesp_open.Goals as goal

pub returns-in-Ok-clause-opened : goal.returns-in-Ok-clause-opened
returns-in-Ok-clause-opened c = λ none within. record {
  ended = Ok (work_of c.in-Ok.kept.value.bench);
  opens = begun _ (work_of c.in-Ok.kept.value.bench) (rw c.in-Some-new.ensures.1 at c.in-Ok.ensures.opening);
  fails = tt;
  work = ap work_in c.put-in-Ok.ensures;
  length = c.of.ensures.length;
  status = c.of.ensures.status;
  place = c.of.ensures.place;
  reason = c.of.ensures.reason;
  field = c.of.ensures.field;
}

pub returns-in-Err-clause-opened : goal.returns-in-Err-clause-opened
returns-in-Err-clause-opened c = λ none within. record {
  ended = Err c.in-Err.fault;
  opens = tt;
  fails = rw c.in-Some-new.ensures.1 at c.in-Err.ensures.fault;
  work = ap work_in c.take.ensures.closed;
  length = c.of-in-Err.ensures.length;
  status = c.of-in-Err.ensures.status;
  place = c.of-in-Err.ensures.place;
  reason = c.of-in-Err.ensures.reason;
  field = c.of-in-Err.ensures.field;
}
