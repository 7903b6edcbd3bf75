-- One more of the others.
use Rattle.std.proofs.Common.{◌≡◌, ◌+◌, ◌<◌, ◌++◌, ◌∷◌, [], inl, List, length, take, get_or, subst, ap, ◌∙◌, rules}
use Rattle.std.proofs.lemmas.List.{take_more}
use Rattle.pesp_search_least.proofs.Stack.{in_some_push}
use Rattle.pesp_search_cycles.specs.declared.boxes.Boxes.{Boxes}
use Rattle.pesp_search_cycles.specs.declared.range.Range.{Range}
use Rattle.pesp_search_cycles.specs.Ranges.{AreNarrowed}
use Rattle.pesp_search_cycles.specs.Splits.{IsNarrowed}
use Rattle.pesp_search_cycles.specs.Starts.{IsInBoxes}
use Rattle.pesp_search_cycles.proofs.Opened.{both_more}
use Rattle.pesp_search_cycles.proofs.starts.Starts.push.Goals as goal

pub loop-index-preserved : goal.loop-index-preserved
loop-index-preserved c =
    let N = c.args.self.now.cycles.now in
    let boxes = c.args.boxes.now in
    let others = c.args.others.now in
    let i = c.loop-index.index in
    let other = c.index-others-index.result in
    let copy = c.in_ok-narrowed.narrowed in
    let new = c.narrow.new.self in
    let all = c.loop-index.self.boxes.items in
    let here : i < length others = c.loop-index-test.true in
    let at : get_or others i other ≡ other = search (rules, c.index-others-index.is) in
    let pushed : c.push.new.self.items ≡ all ++ new ∷ [] = search rules in
    let longer : take (i + 1) others ≡ take i others ++ other ∷ [] = take_more others i other here ∙ ap (λ (B : Boxes). take i others ++ B ∷ []) at in
    let narrowed : IsNarrowed boxes other new = record {
      numbers = subst (λ (rs : List Range). AreNarrowed rs other.numbers.items new.numbers.items) c.in_ok-narrowed.ensures.numbers c.narrow.ensures.numbers;
      rounds = subst (λ (rs : List Range). AreNarrowed rs other.rounds.items new.rounds.items) c.in_ok-narrowed.ensures.rounds c.narrow.ensures.rounds;
    } in
    record {
      cycles = c.loop-index.invariant.cycles;
      before = λ map sum s. rw pushed (in_some_push (IsInBoxes N) all new map sum (inl (c.loop-index.invariant.before map sum s)));
      both = rw (longer, pushed) (both_more N (take i others) other all boxes new narrowed c.loop-index.invariant.both);
    }
