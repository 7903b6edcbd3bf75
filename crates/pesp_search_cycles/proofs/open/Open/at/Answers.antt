-- Node by node.
use Rattle.std.proofs.Common.{◌≡◌, ◌+◌, ◌<◌, ◌++◌, ◌∷◌, [], length, take, get_or, ap, ◌∙◌, rules}
use Rattle.std.proofs.lemmas.List.{take_more}
use Rattle.pesp_search_cycles.specs.declared.boxes.Boxes.{Boxes}
use Rattle.pesp_search_cycles.proofs.Opened.{opened_more}
use Rattle.pesp_search_cycles.proofs.open.Open.at.Goals as goal

pub loop-index-preserved : goal.loop-index-preserved
loop-index-preserved c =
    let N = c.args.starts.now.cycles.now in
    let R = c.args.residues.now in
    let starts = c.args.starts.now.boxes.items in
    let i = c.loop-index.index in
    let start = c.index.result.now in
    let nodes = c.loop-index.nodes.items in
    let root = c.in_ok-root.root in
    let node = c.narrowed.result in
    let here : i < length starts = search rules in
    let same : node.cycles.now ≡ N = ap (λ x. x.now) c.narrowed.ensures.cycles ∙ c.in_ok-root.ensures.cycles in
    let at : get_or starts i start ≡ start = search rules in
    let pushed : c.push.new.self.items ≡ nodes ++ node ∷ [] = search rules in
    let longer : take (i + 1) starts ≡ take i starts ++ start ∷ [] = take_more starts i start here ∙ ap (λ (B : Boxes). take i starts ++ B ∷ []) at in
    rw (longer, pushed) (opened_more N R (take i starts) start nodes root node c.loop-index.invariant same c.narrowed.ensures.boxes c.in_ok-root.ensures.all c.in_ok-root.ensures.within)
