-- Those in one more of the boxes.
use Rattle.std.proofs.Common.{◌≡◌, ◌+◌, ◌<◌, ◌++◌, ◌∷◌, [], List, length, take, get_or, subst, ap, ◌∙◌, rules}
use Rattle.std.proofs.lemmas.List.{take_more}
use Rattle.pesp_search_least.specs.Sums.{InSome}
use Rattle.pesp_search_cycles.specs.declared.boxes.Boxes.{Boxes}
use Rattle.pesp_search_cycles.specs.Starts.{IsInBoxes}
use Rattle.pesp_search_cycles.proofs.Opened.{and_more}
use Rattle.pesp_search_cycles.proofs.starts.Starts.and.Goals as goal

pub loop-index-preserved : goal.loop-index-preserved
loop-index-preserved c =
    let N = c.args.self.cycles.now in
    let all = c.args.self.boxes.items in
    let others = c.args.others.now in
    let i = c.loop-index.index in
    let boxes = c.index.result.now in
    let same : c.loop-index.both.cycles.now ≡ N = ap (λ x. x.now) c.loop-index.invariant.cycles in
    let here : i < length all = search rules in
    let at : get_or all i boxes ≡ boxes = search rules in
    let longer : take (i + 1) all ≡ take i all ++ boxes ∷ [] = take_more all i boxes here ∙ ap (λ (B : Boxes). take i all ++ B ∷ []) at in
    record {
      cycles = c.in_ok-push.ensures.cycles ∙ c.loop-index.invariant.cycles;
      both = λ xs sum has more.
          and_more N c.loop-index.both.cycles.now (take i all) boxes others c.loop-index.both.boxes.items c.push.new.self.boxes.items same c.in_ok-push.ensures.before c.in_ok-push.ensures.both xs sum
          (c.loop-index.invariant.both xs sum) (subst (λ (bs : List Boxes). InSome (IsInBoxes N) bs xs sum) longer has) more;
    }
