-- The weight of the arc at its place.
use Rattle.std.proofs.Common.{◌≡◌, ◌<◌, ◌*◌, ◌^◌, map, pos, rules, sym, ap, ◌∙◌, arith, to_z, w64}
use Rattle.std.proofs.lemmas.Int.{ints}
use Rattle.std.proofs.lemmas.List.{get_or-map, get_or_default, get_or_past, length-map}
use Rattle.pesp_search_cycles.specs.Terms.{rate_of}
use Rattle.pesp_search_cycles.specs.Walks.{arc_at, no_arc}
use Rattle.pesp_search_cycles.proofs.terms.rate.Goals as goal

pub returns-then-index-arcs : goal.returns-then-index-arcs
returns-then-index-arcs c =
    let arcs = c.args.arcs.now in
    let k = c.args.index in
    let weight : c.from-then-index-arcs.result ≡ (arc_at arcs k).weight =
    c.from-then-index-arcs.ensures ∙ c.get.ensures.value ∙ ap (λ a. a.weight) (get_or_default arcs k c.index-arcs-index.result no_arc c.if-index-arcs.true) in
    let product : c.from.result * c.from-then-index-arcs.result ≡ c.args.scale * (arc_at arcs k).weight =
    ap (λ n. n * c.from-then-index-arcs.result) c.from.ensures ∙ ap (λ n. c.args.scale * n) weight in
    let small : c.from.result * c.from-then-index-arcs.result < 2 ^ 63 = search rules in
    let read : to_z w64 (c.from.result * c.from-then-index-arcs.result) ≡ pos (c.from.result * c.from-then-index-arcs.result) = omega (arith, ints, small) in
    read ∙ ap pos product ∙ sym (get_or-map (rate_of c.args.scale) arcs k no_arc (pos 0) c.if-index-arcs.true)

pub returns-else-index-arcs : goal.returns-else-index-arcs
returns-else-index-arcs c =
    sym (get_or_past (map (rate_of c.args.scale) c.args.arcs.now) c.args.index (pos 0) (omega (arith, length-map c.args.arcs.now (rate_of c.args.scale), c.if-index-arcs.false)))
