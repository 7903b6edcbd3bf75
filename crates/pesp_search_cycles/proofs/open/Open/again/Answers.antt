-- Leaf by leaf.
use Rattle.std.proofs.Common.{◌≡◌, ◌++◌, ◌∷◌, [], sym, subst, rules}
use Rattle.pesp_search_least.specs.Sums.{InSome, IsWithin, Sums}
use Rattle.pesp_search_cycles.specs.declared.boxes.Boxes.{Boxes}
use Rattle.pesp_search_cycles.specs.declared.node.Node.{Node}
use Rattle.pesp_search_cycles.specs.Leaves.{sums_of}
use Rattle.pesp_search_cycles.specs.Maps.{AreBoxes, IsSummed}
use Rattle.pesp_search_cycles.proofs.Asleep.{AreMoved, moved_first, moved_is, moved_more, node_back, node_there, new_waits}
use Rattle.pesp_search_cycles.proofs.open.Open.again.Goals as goal

pub leaves-init : goal.leaves-init
leaves-init c =
    let N = c.args.cycles.now in
    let none : c.new-nodes.result.items ≡ [] = search rules in
    rw none (moved_first (IsSummed N) sums_of (AreBoxes N) (λ (n : Node). n.cycles.now ≡ N) c.args.leaves.boxes.items c.requires)

pub awake-requires : goal.awake-requires
awake-requires c =
    let N = c.args.cycles.now in
    let fit = moved_is (IsSummed N) sums_of (AreBoxes N) (λ (n : Node). n.cycles.now ≡ N) (InSome (IsSummed N) c.args.leaves.boxes.items) c.pop.new.self.items c.in-Some.boxes c.leaves.nodes.items
    (rw c.in-Some.ensures.items at c.leaves.invariant) in
    new_waits N c.in-Some.boxes c.new-in-Some.result fit c.new-in-Some.ensures.boxes c.new-in-Some.ensures.bound

pub leaves-preserved : goal.leaves-preserved
leaves-preserved c =
    let N = c.args.cycles.now in
    let all : Sums = InSome (IsSummed N) c.args.leaves.boxes.items in
    let boxes = c.in-Some.boxes in
    let one = c.new-in-Some.result in
    let node = c.in_ok-node.node in
    let is : AreMoved (IsSummed N) sums_of (AreBoxes N) (λ (n : Node). n.cycles.now ≡ N) all (c.pop.new.self.items ++ boxes ∷ []) c.leaves.nodes.items = rw c.in-Some.ensures.items at c.leaves.invariant in
    let pushed : c.push.new.self.items ≡ c.leaves.nodes.items ++ node ∷ [] = search rules in
    let there : IsWithin (IsSummed N boxes) (sums_of node) =
    subst (λ (B : Boxes). IsWithin (IsSummed N B) (sums_of node)) c.new-in-Some.ensures.boxes (node_back N node one c.in_ok-node.ensures.cycles (sym c.in_ok-node.ensures.boxes)) in
    let back : IsWithin (sums_of node) (IsSummed N boxes) =
    subst (λ (B : Boxes). IsWithin (sums_of node) (IsSummed N B)) c.new-in-Some.ensures.boxes (node_there N node one c.in_ok-node.ensures.cycles (sym c.in_ok-node.ensures.boxes)) in
    rw pushed (moved_more (IsSummed N) sums_of (AreBoxes N) (λ (n : Node). n.cycles.now ≡ N) all c.pop.new.self.items boxes c.leaves.nodes.items is node c.in_ok-node.ensures.cycles there back)
