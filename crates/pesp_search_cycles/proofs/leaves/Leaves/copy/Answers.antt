-- One more is copied.
use Rattle.std.proofs.Common.{◌≡◌, ◌+◌, ◌<◌, ◌++◌, ◌∷◌, [], length, take, get_or, ap, ◌∙◌, rules}
use Rattle.std.proofs.lemmas.List.{take_more}
use Rattle.std.proofs.lemmas.List.Elements.{AllZip-push}
use Rattle.pesp_search_cycles.specs.declared.boxes.Boxes.{Boxes}
use Rattle.pesp_search_cycles.specs.Splits.{AreSame}
use Rattle.pesp_search_cycles.proofs.leaves.Leaves.copy.Goals as goal

pub loop-index-preserved : goal.loop-index-preserved
loop-index-preserved c =
    let all = c.args.self.now.boxes.items in
    let i = c.loop-index.index in
    let one = c.index.result.now in
    let here : i < length all = search rules in
    let at : get_or all i one ≡ one = search rules in
    let pushed : c.push.new.self.items ≡ c.loop-index.copy.boxes.items ++ c.in_ok-copy.field-0 ∷ [] = search rules in
    let longer : take (i + 1) all ≡ take i all ++ one ∷ [] = take_more all i one here ∙ ap (λ (B : Boxes). take i all ++ B ∷ []) at in
    rw (longer, pushed) (AllZip-push AreSame (take i all) c.loop-index.copy.boxes.items one c.in_ok-copy.field-0 c.loop-index.invariant c.in_ok-copy.ensures)
