-- One arc more is weighed.
use Rattle.std.proofs.Common.{◌≡◌, ℕ, Bool, List, ◌<◌, ◌==◌, ◌++◌, ◌∷◌, [], refl, length, get_or, sym, ap, ap₂, ◌∙◌, arith, rules}
use Rattle.std.proofs.lemmas.List.{take_all}
use Rattle.pesp_search_graph.specs.declared.arc.Arc.{Arc}
use Rattle.pesp_search_network.specs.Weights.{kept}
use Rattle.pesp_search_network.proofs.Weights.{weighed_more}
use Rattle.pesp_search_network.proofs.network.arcs_of_part.Goals as goal

pub loop-index-preserved : goal.loop-index-preserved
loop-index-preserved c =
    let f : ℕ → Bool = λ p. p == c.args.part in
    let i = c.loop-index.index in
    let arcs = c.args.arcs.now in
    let parts = c.args.parts.now in
    let before : length parts ≡ length arcs = c.requires in
    let here : i < length arcs = c.loop-index-test.true in
    let arc = c.index-arcs-index.result in
    let told : c.weigh-arc.result ≡ kept (f (get_or parts i 0)) (get_or arcs i arc) = c.weigh-arc.ensures ∙ ap (kept (f (get_or parts i 0))) c.index-arcs-index.is in
    let pushed : c.push.new.self.items ≡ c.loop-index.of_part.items ++ c.weigh-arc.result ∷ [] = search rules in
    pushed ∙ ap₂ (λ (l : List Arc) (a : Arc). l ++ a ∷ []) c.loop-index.invariant told ∙ sym (weighed_more f parts arcs i arc before here)

pub returns : goal.returns
returns c = rw (c.loop-index.invariant, take_all c.loop-index.index c.args.parts.now (omega (arith, c.requires, c.loop-index-test.false)), take_all c.loop-index.index c.args.arcs.now c.loop-index-test.false) refl
