-- One walk more.
use Rattle.std.proofs.Common.{◌≡◌, ◌++◌, ◌∷◌, [], IsTrue, List, ap, ◌∙◌, append_assoc, arith, rules}
use Rattle.std.proofs.lemmas.Grind.{common_steps}
use Rattle.std.proofs.lemmas.List.Elements.{All-push, All-same}
use Rattle.pesp_search_cycles.specs.Walks.{Path, joins}
use Rattle.pesp_search_cycles.proofs.cycles.Cycles.with.Goals as goal

pub loop-index-preserved : goal.loop-index-preserved
loop-index-preserved c =
    let A = c.self.inside.network.now in
    let walk = c.in_ok-walk.walk in
    let before = c.loop-index.walks.items in
    let pushed : c.push.new.self.items ≡ before ++ walk ∷ [] = grind (arith, common_steps, c.push.ensures.items, c.if-is_err.ensures.value) in
    let here : IsTrue (joins A.events A.arcs walk) = search rules in
    record {
      joined = All-same (λ (p : Path). IsTrue (joins A.events A.arcs p)) c.push.new.self.items (before ++ walk ∷ []) pushed (All-push (λ (p : Path). IsTrue (joins A.events A.arcs p)) before walk c.loop-index.invariant.joined here);
      begun = (
        c.loop-index.invariant.begun.0 ++ walk ∷ [],
        pushed ∙ ap (λ (ws : List Path). ws ++ walk ∷ []) c.loop-index.invariant.begun.1 ∙ append_assoc c.args.self.now.walks c.loop-index.invariant.begun.0 (walk ∷ []),
      );
    }
