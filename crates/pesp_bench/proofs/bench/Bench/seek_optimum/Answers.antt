-- An end makes the optimum known. At a stop the best under the candidate's cost, or else the candidate, is what a search without a bound may stop with.
use Rattle.std.proofs.Common.{◌≡◌, None, ap, refl, rules, subst}
use Rattle.pesp_instance.specs.Network.{Network}
use Rattle.pesp_bench.specs.Candidate.{IsCandidate}
use Rattle.pesp_bench.specs.State.{State}
use Rattle.pesp_bench.proofs.Floors.{ended, known_state, sought_end, sought_stop, stopped}
use Rattle.pesp_bench.proofs.bench.Bench.seek_optimum.Goals as goal

pub returns-then-is_stopped-clause-ok : goal.returns-then-is_stopped-clause-ok
returns-then-is_stopped-clause-ok g c =
    let I : Network = g.K.Keeper.network c.self.inside.keeper in
    let unknown : c.self.inside.known ≡ None = search rules in
    let found = c.in-Ok.ensures.known in
    let stop = stopped I c.candidate_cost-bound.result c.args.limit c.in-Ok.nodes c.in-Ok.known.is_stopped c.in-Ok.known.best found.outcome c.if-is_stopped.true in
    let candidate : IsCandidate I c.candidate_cost-bound.result c.self.inside.candidate = subst (λ J. IsCandidate J c.candidate_cost-bound.result c.self.inside.candidate) c.instance.ensures c.candidate_cost-bound.ensures.cost in
    sought_stop c.args.self.now.instance I _ c.args.limit c.in-Ok.known.lower_bound c.or_candidate-found.result (ap (λ (s : State). s.instance) c.self.view_is)
    c.known_after.ensures.network unknown stop.1 (c.or_candidate-found.ensures I c.args.limit candidate stop.0) found.floor

pub invariant_of-self-2 : goal.invariant_of-self-2
invariant_of-self-2 g c =
    let I : Network = g.K.Keeper.network c.self.inside.keeper in
    let end = ended I c.candidate_cost-bound.result c.args.limit c.in-Ok.nodes c.in-Ok.known.is_stopped c.in-Ok.known.best c.in-Ok.ensures.known.outcome c.if-is_stopped.false in (
      known_state I (g.K.Keeper.network c.known_after.new.keeper) _ _ c.self.inside.times c.self.inside.known c.answer_of-answer.result
          c.self.invariant.0 c.known_after.ensures.network c.known_after.ensures.pushes (c.answer_of-answer.ensures I end.0),
      rw c.known_after.ensures.network c.self.invariant.1,
    )

pub returns-clause-ok : goal.returns-clause-ok
returns-clause-ok g c =
    let I : Network = g.K.Keeper.network c.self.inside.keeper in
    let end = ended I c.candidate_cost-bound.result c.args.limit c.in-Ok.nodes c.in-Ok.known.is_stopped c.in-Ok.known.best c.in-Ok.ensures.known.outcome c.if-is_stopped.false in
    sought_end c.args.self.now.instance I _ c.args.limit c.answer_of-answer.result c.from_answer-sought.result (ap (λ (s : State). s.instance) c.self.view_is)
    c.known_after.ensures.network refl end.1 (c.answer_of-answer.ensures I end.0) c.from_answer-sought.ensures
