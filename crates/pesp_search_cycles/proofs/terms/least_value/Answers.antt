-- The weights, then the walks, then the cuts, then all numbers.
use Rattle.std.proofs.Common.{◌≡◌, ℕ, ◌*◌, ◌<◌, ◌++◌, ◌≤ℤ◌, pos, All, List, FitsSigned, w64, length, get_or, sym, ap, subst, ◌∙◌, arith, rules}
use Rattle.pesp_base.proofs.Laws.{le_through}
use Rattle.pesp_search_graph.specs.declared.arc.Arc.{Arc}
use Rattle.pesp_search_network.specs.Arcs.{Arcs}
use Rattle.pesp_search_cycles.specs.declared.flip.FlipCut.{FlipCut}
use Rattle.pesp_search_cycles.specs.declared.range.Range.{Range}
use Rattle.pesp_search_cycles.specs.Ranges.{AreIn}
use Rattle.pesp_search_cycles.specs.Terms.{IsKept, products, rate_at, value, weighed}
use Rattle.pesp_search_cycles.specs.Walks.{Path, RoundsAreIn}
use Rattle.pesp_search_cycles.proofs.Floors.{settled_below}
use Rattle.pesp_search_cycles.proofs.Numbers.{back}
use Rattle.pesp_search_cycles.proofs.Totals.{AreIn-length}
use Rattle.pesp_search_cycles.proofs.terms.least_value.Goals as goal

pub returns-clause-least : goal.returns-clause-least
returns-clause-least c ys xs long numbers rounds kept =
    let N = c.args.cycles.now in
    let A = N.network in
    let B = c.args.boxes.now in
    let zs = ys ++ xs in
    let rates = c.take_walks.new.rates in
    let last = c.take_cuts.new.rates in
    let many : length zs ≡ length c.weigh.new.rates = AreIn-length B.numbers.items zs numbers ∙ c.requires.boxes.numbers ∙ sym c.requires.rates ∙ sym c.weigh.ensures.long in
    let sum_fits : FitsSigned w64 c.in_ok-sum.sum = search rules in
    let less_fits : FitsSigned w64 c.in_ok-less.less = search rules in
    let least_fits : FitsSigned w64 c.in_ok-least.least = search rules in
    let arcs_is : c.arcs-arcs.result.now ≡ A.arcs = c.arcs-arcs.ensures.value ∙ ap (λ (n : Arcs). n.arcs) c.network.ensures in
    let walks : RoundsAreIn c.deref.result.now c.arcs-arcs.result.now zs c.walks-walks.result.now =
    subst (λ (ps : List Path). RoundsAreIn c.deref.result.now c.arcs-arcs.result.now zs ps) (sym c.walks-walks.ensures.value)
    (subst (λ (as' : List Arc). RoundsAreIn c.deref.result.now as' zs N.walks) (sym arcs_is)
    (subst (λ (rs : List Range). RoundsAreIn rs A.arcs zs N.walks) (sym c.deref.ensures.value) rounds)) in
    let boxes : AreIn c.deref-2.result.now zs = subst (λ (rs : List Range). AreIn rs zs) (sym c.deref-2.ensures.value) numbers in
    let cuts : All (λ cut. IsKept cut zs) c.cuts.result.now = subst (λ (cs : List FlipCut). All (λ cut. IsKept cut zs) cs) (sym c.cuts.ensures.value) kept in
    let weights : (k : ℕ) → k < length c.weigh.new.rates → get_or c.weigh.new.rates k (pos 0) ≡ rate_at c.args.scale A.arcs k =
    λ k h. c.weigh.ensures.each k (omega (arith, h, c.weigh.ensures.long)) ∙ ap (λ (as' : List Arc). rate_at c.args.scale as' k) arcs_is in
    let taken : value c.in_ok-sum.sum rates zs ≤ℤ products c.weigh.new.rates zs = c.in_ok-sum.ensures.taken zs many walks in
    let more : value c.in_ok-less.less last zs ≤ℤ value c.in_ok-sum.sum rates zs =
    subst (λ s. value c.in_ok-less.less last zs ≤ℤ value s rates zs) (back _ sum_fits) (c.in_ok-less.ensures.taken zs (many ∙ sym c.take_walks.ensures.long) cuts) in
    let settled : c.in_ok-least.least ≤ℤ value c.in_ok-less.less last zs =
    subst (λ s. c.in_ok-least.least ≤ℤ value s last zs) (back _ less_fits) (c.in_ok-least.ensures zs boxes) in
    subst (λ l. l ≤ℤ pos (c.args.scale * weighed A.arcs ys)) (sym (back _ least_fits))
    (settled_below c.args.scale A.arcs ys xs c.in_ok-least.least (value c.in_ok-less.less last zs) c.weigh.new.rates long (omega (arith, c.requires.rates, c.weigh.ensures.long)) weights settled (le_through _ _ _ more taken))
