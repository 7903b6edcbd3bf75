-- Both ends are settled where neither pass took a pair out.
use Rattle.std.proofs.Common.{rules}
use Rattle.pesp_domains.proofs.Passes.{both_settled}
use Rattle.pesp_domains.proofs.sweep.narrow_both.Goals as goal

pub returns-clause-settled : goal.returns-clause-settled
returns-clause-settled c = both_settled _ _ _ _ _ _ c.narrow-head.ensures.pass c.narrow-tail.ensures.settled c.narrow-head.ensures.settled

-- by search, and named so that a wrong body is refused here at once
pub returns-clause-pass : goal.returns-clause-pass
returns-clause-pass c = search rules
