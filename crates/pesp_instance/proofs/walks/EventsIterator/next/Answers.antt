-- Found by search, and named so that a wrong body is refused here at once.
use Rattle.std.proofs.Common.{rules}
use Rattle.pesp_instance.proofs.walks.EventsIterator.next.Goals as goal

pub returns-in_err-next-clause-steps : goal.returns-in_err-next-clause-steps
returns-in_err-next-clause-steps c = search rules

pub returns-clause-steps : goal.returns-clause-steps
returns-clause-steps c = search rules
