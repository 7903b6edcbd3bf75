-- The node has the maps of the leaf with the residues of the question.
use Rattle.std.proofs.Common.{◌≡◌, ◌+◌, ◌++◌, List, length, ap, ◌∙◌, arith}
use Rattle.std.proofs.lemmas.List.{length-append}
use Rattle.pesp_search_least.proofs.Budgets.{spends_on}
use Rattle.pesp_search_network.specs.Arcs.{Arcs}
use Rattle.pesp_search_cycles.specs.Maps.{IsHere, IsSummed, Net}
use Rattle.pesp_search_cycles.specs.Walks.{Path}
use Rattle.pesp_search_cycles.proofs.Asked.{asked_here, here_asked}
use Rattle.pesp_search_cycles.proofs.Outcomes.{ok_along}
use Rattle.pesp_search_cycles.proofs.held.Held.answer.Goals as goal

pub narrowed-node-requires-clause-numbers : goal.narrowed-node-requires-clause-numbers
narrowed-node-requires-clause-numbers c =
    let root = c.in-Some.root in
    let same : root.cycles.now ≡ c.args.question.now.cycles = rw c.in-Some.is at c.in_ok-root.ensures.cycles in
    let network : root.cycles.now.network ≡ c.args.self.now.cycles.now.network = ap (λ (N : Net). N.network) same ∙ c.requires.network in
    omega (arith, c.requires.boxes.numbers, root.fit.numbers, ap (λ (A : Arcs). length A.arcs) network, ap (λ (A : Arcs). A.events) network)

pub narrowed-node-requires-clause-rounds : goal.narrowed-node-requires-clause-rounds
narrowed-node-requires-clause-rounds c =
    let root = c.in-Some.root in
    let N = c.args.self.now.cycles.now in
    let same : root.cycles.now ≡ c.args.question.now.cycles = rw c.in-Some.is at c.in_ok-root.ensures.cycles in
    let walks : root.cycles.now.walks ≡ N.walks ++ c.requires.walks.0 = ap (λ (M : Net). M.walks) same ∙ c.requires.walks.1 in
    omega (arith, c.requires.boxes.rounds, root.fit.rounds, ap (λ (ws : List Path). length ws) walks, length-append N.walks c.requires.walks.0)

pub least-requires : goal.least-requires
least-requires c =
    let root = c.in-Some.root in
    let node = c.narrowed-node.result in
    record {
      floor = λ xs cost s.
          c.requires.floor xs cost
          (asked_here c.args.self.now.cycles.now c.args.question.now.cycles root.cycles.now node.cycles.now c.requires.walks.0 c.requires.network c.requires.walks.1 (rw c.in-Some.is at c.in_ok-root.ensures.cycles) (ap (λ b. b.now) c.narrowed-node.ensures.cycles) c.args.question.now.residues.items c.deref.result.now c.deref.ensures.value root.boxes c.args.boxes.now node.boxes c.requires.boxes c.narrowed-node.ensures.boxes (rw c.in-Some.is at c.in_ok-root.ensures.within) xs cost s);
    }

pub returns-clause-outcome : goal.returns-clause-outcome
returns-clause-outcome c =
    let root = c.in-Some.root in
    let node = c.narrowed-node.result in
    let N = c.args.self.now.cycles.now in
    let P = c.args.question.now.cycles in
    let R = c.args.question.now.residues.items in
    let q : root.cycles.now ≡ P = rw c.in-Some.is at c.in_ok-root.ensures.cycles in
    let m : node.cycles.now ≡ root.cycles.now = ap (λ b. b.now) c.narrowed-node.ensures.cycles in
    ok_along (IsSummed node.cycles.now node.boxes) (IsHere N R c.args.boxes.now) (c.args.question.now.cost + 1) c.least.result
    (asked_here N P root.cycles.now node.cycles.now c.requires.walks.0 c.requires.network c.requires.walks.1 q m R c.deref.result.now c.deref.ensures.value root.boxes c.args.boxes.now node.boxes c.requires.boxes c.narrowed-node.ensures.boxes (rw c.in-Some.is at c.in_ok-root.ensures.within))
    (here_asked N P root.cycles.now node.cycles.now c.requires.walks.0 c.requires.network c.requires.walks.1 q m R c.deref.result.now c.deref.ensures.value root.boxes c.args.boxes.now node.boxes c.requires.boxes c.narrowed-node.ensures.boxes (rw c.in-Some.is at c.in_ok-root.ensures.all))
    c.least.ensures.outcome

pub returns-clause-budget : goal.returns-clause-budget
returns-clause-budget c = spends_on _ _ _ c.spend.ensures.spends c.least.ensures.budget
