-- What is reached from the root is what it has.
use Rattle.std.proofs.Common.{◌∷◌, [], None}
use Rattle.std.proofs.lemmas.Result.{IfOk-weaker}
use Rattle.pesp_search_least.specs.Reached.{IsReached}
use Rattle.pesp_search_least.proofs.Outcomes.{outcome_same}
use Rattle.pesp_search_least.proofs.Underway.{alone_reached, reached_alone}
use Rattle.pesp_search_least.proofs.search.least.Goals as goal

pub returns-clause-outcome : goal.returns-clause-outcome
returns-clause-outcome g c =
    let sums = g.R.Relaxation.sums in
    let root = c.args.root in
    IfOk-weaker c.go_on.result _ _ (λ outcome is. outcome_same (IsReached sums (root ∷ []) None) (sums root) c.args.limits.cap outcome (reached_alone sums root) (alone_reached sums root) is)
    (rw c.in_ok-nodes.ensures at c.go_on.ensures.outcome)
