-- Node by node.
use Rattle.std.proofs.Common.{◌≡◌, ◌++◌, ◌∷◌, [], subst, rules}
use Rattle.pesp_search_least.specs.Sums.{InSome, Sums}
use Rattle.pesp_search_cycles.specs.declared.node.Node.{Node}
use Rattle.pesp_search_cycles.specs.Leaves.{sums_of}
use Rattle.pesp_search_cycles.specs.Maps.{Net}
use Rattle.pesp_search_cycles.specs.Waiting.{IsWaiting, sums_in}
use Rattle.pesp_search_cycles.proofs.Asleep.{AreMoved, moved_first, moved_is, moved_more, node_back, node_there}
use Rattle.pesp_search_cycles.proofs.waiting.asleep.Goals as goal

pub nodes-init : goal.nodes-init
nodes-init c =
    let N = c.args.cycles.now in
    let none : c.new-waiting.result.items ≡ [] = search rules in
    rw none (moved_first sums_of (sums_in N) (λ (n : Node). n.cycles.now ≡ N) (IsWaiting N) c.args.nodes.items c.requires)

pub nodes-preserved : goal.nodes-preserved
nodes-preserved c =
    let N = c.args.cycles.now in
    let all : Sums = InSome sums_of c.args.nodes.items in
    let node = c.in-Some.node in
    let one = c.asleep.result in
    let is : AreMoved sums_of (sums_in N) (λ (n : Node). n.cycles.now ≡ N) (IsWaiting N) all (c.pop.new.self.items ++ node ∷ []) c.nodes.waiting.items = rw c.in-Some.ensures.items at c.nodes.invariant in
    let same : node.cycles.now ≡ N = moved_is sums_of (sums_in N) (λ (n : Node). n.cycles.now ≡ N) (IsWaiting N) all c.pop.new.self.items node c.nodes.waiting.items is in
    let pushed : c.push.new.self.items ≡ c.nodes.waiting.items ++ one ∷ [] = search rules in
    rw pushed
    (moved_more sums_of (sums_in N) (λ (n : Node). n.cycles.now ≡ N) (IsWaiting N) all c.pop.new.self.items node c.nodes.waiting.items is one
    (subst (λ (M : Net). IsWaiting M one) same c.asleep.ensures.waiting)
    (node_there N node one same c.asleep.ensures.boxes)
    (node_back N node one same c.asleep.ensures.boxes))
