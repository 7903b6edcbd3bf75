-- The time of the walk is a whole number of periods.
use Rattle.std.proofs.Common.{◌≡◌, ◌<◌, ℤ, pos, ◌*ℤ◌, IsTrue, List, to_z, of_z, w64, sym, ap, subst, ◌∙◌, arith}
use Rattle.std.proofs.lemmas.Grind.{common_steps}
use Rattle.pesp_search_graph.specs.declared.arc.Arc.{Arc}
use Rattle.pesp_search_network.specs.Arcs.{Arcs}
use Rattle.pesp_search_cycles.specs.Maps.{numbers_of}
use Rattle.pesp_search_cycles.specs.Terms.{IsMade}
use Rattle.pesp_search_cycles.specs.Walks.{joins, round}
use Rattle.pesp_search_cycles.proofs.Rounds.{round_whole}
use Rattle.pesp_search_cycles.proofs.flip.flip_cut.Goals as goal

pub returns : goal.returns
returns c xs met =
    let A = c.args.cycles.now.network in
    let walk = c.args.flip.now.walk in
    let zs = numbers_of A xs in
    let P = c.get.result in
    let a : ℤ = to_z w64 (of_z w64 c.args.flip.now.rest) in
    let period : P ≡ A.period = c.get.ensures.value ∙ c.period.ensures in
    let positive : 0 < A.period = omega (arith, c.get.ensures.limits, period) in
    let arcs_are : c.arcs-arcs.result.now ≡ A.arcs = c.arcs-arcs.ensures.value ∙ ap (λ (n : Arcs). n.arcs) c.network-network.ensures in
    let holds : IsTrue c.joins.result = grind (arith, common_steps, c.if-not-joins.false, c.if-not-joins.ensures) in
    let joined : IsTrue (joins A.events A.arcs walk) =
    subst IsTrue
    (c.joins.ensures ∙ ap (λ n. joins n c.arcs-arcs.result.now walk) (c.events.ensures.value ∙ ap (λ (n : Arcs). n.events) c.network-network.ensures) ∙ ap (λ (as' : List Arc). joins A.events as' walk) arcs_are)
    holds in
    let time = round_whole A positive xs walk joined in
    let is_made : IsMade P a c.in_ok-made.made zs (round A.arcs zs walk) =
    subst (λ (as' : List Arc). IsMade P a c.in_ok-made.made zs (round as' zs walk)) arcs_are (c.in_ok-made.ensures zs (c.requires xs met)) in
    c.in_ok-cut.ensures zs time.0 (subst (λ t. IsMade P a c.in_ok-made.made zs t) (subst (λ t. round A.arcs zs walk ≡ pos t *ℤ time.0) (sym period) time.1) is_made)
