-- What is left of the numbers is within the limit.
use Rattle.std.proofs.Common.{suc, arith, rules}
use Rattle.pesp_tension.proofs.walk.WalkIterator.next.Goals as goal

pub invariant_of-self-2 : goal.invariant_of-self-2
invariant_of-self-2 c =
    let before = rw c.in_ok-event.ensures.steps at c.self.invariant in
    λ k d h. before (suc k) d (omega arith)

-- by search, and named so that a wrong body is refused here at once
pub returns-clause-steps : goal.returns-clause-steps
returns-clause-steps c = search rules
