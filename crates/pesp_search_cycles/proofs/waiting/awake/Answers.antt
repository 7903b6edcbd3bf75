-- Node by node.
use Rattle.std.proofs.Common.{◌≡◌, ◌++◌, ◌∷◌, [], sym, rules}
use Rattle.pesp_search_least.specs.Sums.{InSome, Sums}
use Rattle.pesp_search_cycles.specs.declared.node.Node.{Node}
use Rattle.pesp_search_cycles.specs.Leaves.{sums_of}
use Rattle.pesp_search_cycles.specs.Waiting.{IsWaiting, sums_in}
use Rattle.pesp_search_cycles.proofs.Asleep.{AreMoved, moved_first, moved_is, moved_more, node_back, node_there}
use Rattle.pesp_search_cycles.proofs.waiting.awake.Goals as goal

pub nodes-init : goal.nodes-init
nodes-init c =
    let N = c.args.cycles.now in
    let none : c.new-nodes.result.items ≡ [] = search rules in
    rw none (moved_first (sums_in N) sums_of (IsWaiting N) (λ (n : Node). n.cycles.now ≡ N) c.args.waiting.items c.requires)

pub awake-requires : goal.awake-requires
awake-requires c =
    let N = c.args.cycles.now in
    moved_is (sums_in N) sums_of (IsWaiting N) (λ (n : Node). n.cycles.now ≡ N) (InSome (sums_in N) c.args.waiting.items) c.pop.new.self.items c.in-Some.one c.nodes.nodes.items
    (rw c.in-Some.ensures.items at c.nodes.invariant)

pub nodes-preserved : goal.nodes-preserved
nodes-preserved c =
    let N = c.args.cycles.now in
    let all : Sums = InSome (sums_in N) c.args.waiting.items in
    let one = c.in-Some.one in
    let node = c.in_ok-node.node in
    let is : AreMoved (sums_in N) sums_of (IsWaiting N) (λ (n : Node). n.cycles.now ≡ N) all (c.pop.new.self.items ++ one ∷ []) c.nodes.nodes.items = rw c.in-Some.ensures.items at c.nodes.invariant in
    let pushed : c.push.new.self.items ≡ c.nodes.nodes.items ++ node ∷ [] = search rules in
    rw pushed
    (moved_more (sums_in N) sums_of (IsWaiting N) (λ (n : Node). n.cycles.now ≡ N) all c.pop.new.self.items one c.nodes.nodes.items is node
    c.in_ok-node.ensures.cycles
    (node_back N node one c.in_ok-node.ensures.cycles (sym c.in_ok-node.ensures.boxes))
    (node_there N node one c.in_ok-node.ensures.cycles (sym c.in_ok-node.ensures.boxes)))
