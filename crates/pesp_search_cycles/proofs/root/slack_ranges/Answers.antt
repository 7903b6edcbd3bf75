-- Each arc has its range.
use Rattle.std.proofs.Common.{◌≡◌, ℕ, ◌<◌, ◌++◌, ◌∷◌, [], IsTrue, List, pos, length, get_or, sym, ap, subst, arith}
use Rattle.std.proofs.lemmas.Grind.{common_steps}
use Rattle.std.proofs.lemmas.List.{get_or_read}
use Rattle.pesp_base.specs.Tensions.{is_met, slack_of}
use Rattle.pesp_search_graph.specs.declared.arc.Arc.{Arc}
use Rattle.pesp_search_cycles.specs.declared.range.Range.{Range}
use Rattle.pesp_search_cycles.specs.Ranges.{AreIn, IsIn, no_range}
use Rattle.pesp_search_cycles.specs.Walks.{no_arc}
use Rattle.pesp_search_cycles.proofs.Pushed.{pushed_each, pushed_long}
use Rattle.pesp_search_cycles.proofs.Rounds.{slack_number}
use Rattle.pesp_search_cycles.proofs.root.slack_ranges.Goals as goal

pub returns-clause-inside : goal.returns-clause-inside
returns-clause-inside c xs met inside k h =
    let A = c.args.network.now in
    let range = get_or c.loop-index.ranges.items k no_range in
    let each : (arcs : List Arc) (T : ℕ) → Type 0 =
    λ arcs T. IsTrue (is_met T (get_or arcs k no_arc).span (get_or xs (get_or arcs k no_arc).from 0) (get_or xs (get_or arcs k no_arc).to 0)) → IsIn range (pos (slack_of T (get_or arcs k no_arc).span (get_or xs (get_or arcs k no_arc).from 0) (get_or xs (get_or arcs k no_arc).to 0))) in
    let within : k < c.loop-index.index = omega (arith, h, ap (λ (arcs : List Arc). length arcs) c.arcs-arcs.ensures.value) in
    let here : each c.arcs-arcs.result.now c.period-period.result = c.loop-index.invariant.each k within xs inside in
    let there : each A.arcs A.period =
    subst (λ T. each A.arcs T) c.period-period.ensures (subst (λ (arcs : List Arc). each arcs c.period-period.result) c.arcs-arcs.ensures.value here) in
    subst (λ y. IsIn range (pos y)) (sym (slack_number A xs k h)) (there (met.met k no_arc h))

pub loop-index-preserved : goal.loop-index-preserved
loop-index-preserved c =
    let i = c.loop-index.index in
    let arcs = c.arcs-arcs.result.now in
    let here : i < length arcs = omega arith in
    let same : c.index-arcs-index.result ≡ get_or arcs i no_arc = get_or_read arcs i c.index-arcs-index.result here c.index-arcs-index.is no_arc in
    let holds : Arc → Range → Type 0 =
    λ a r. (xs : List ℕ) → AreIn c.args.residues.now xs → IsTrue (is_met c.period-period.result a.span (get_or xs a.from 0) (get_or xs a.to 0)) → IsIn r (pos (slack_of c.period-period.result a.span (get_or xs a.from 0) (get_or xs a.to 0))) in
    let pushed : c.push.new.self.items ≡ c.loop-index.ranges.items ++ c.arc_range.result ∷ [] = grind (arith, common_steps, c.push.ensures.items, c.if-is_err.ensures.value) in
    record {
      long = pushed_long c.loop-index.ranges.items c.push.new.self.items i c.arc_range.result c.loop-index.invariant.long pushed;
      each = pushed_each (λ k (r : Range). holds (get_or arcs k no_arc) r) c.loop-index.ranges.items c.push.new.self.items i c.arc_range.result c.loop-index.invariant.long pushed c.loop-index.invariant.each (subst (λ (a : Arc). holds a c.arc_range.result) same c.arc_range.ensures);
    }
