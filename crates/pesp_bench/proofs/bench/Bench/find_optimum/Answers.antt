-- Without a limit the search comes to its end.
use Rattle.std.proofs.Common.{ap, rules, subst}
use Rattle.pesp_instance.specs.Network.{Network}
use Rattle.pesp_search.specs.Optima.{IsAnswer}
use Rattle.pesp_search.proofs.Ends.{only_end}
use Rattle.pesp_bench.specs.State.{State}
use Rattle.pesp_bench.proofs.Floors.{known_state}
use Rattle.pesp_bench.proofs.bench.Bench.find_optimum.Goals as goal

-- named so that a wrong body is refused here at once
pub known_after-requires-clause-bound : goal.known_after-requires-clause-bound
known_after-requires-clause-bound g c = search rules

pub invariant_of-self-2 : goal.invariant_of-self-2
invariant_of-self-2 g c =
    let I : Network = g.K.Keeper.network c.self.inside.keeper in
    let end = only_end I c.candidate_cost-bound.result c.in-Ok.known.is_stopped c.in-Ok.known.best c.in-Ok.nodes c.in-Ok.ensures.known.outcome in (
      known_state I (g.K.Keeper.network c.known_after.new.keeper) _ _ c.self.inside.times c.self.inside.known c.answer_of.result
          c.self.invariant.0 c.known_after.ensures.network c.known_after.ensures.pushes (c.answer_of.ensures I end),
      rw c.known_after.ensures.network c.self.invariant.1,
    )

pub returns-clause-ok : goal.returns-clause-ok
returns-clause-ok g c =
    let I : Network = g.K.Keeper.network c.self.inside.keeper in
    let end = only_end I c.candidate_cost-bound.result c.in-Ok.known.is_stopped c.in-Ok.known.best c.in-Ok.nodes c.in-Ok.ensures.known.outcome in
    subst (λ (J : Network). IsAnswer J c.answer_of.result) (ap (λ (s : State). s.instance) c.self.view_is) (c.answer_of.ensures I end)
