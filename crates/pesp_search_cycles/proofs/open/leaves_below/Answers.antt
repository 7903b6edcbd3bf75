-- From node to node.
use Rattle.std.proofs.Common.{◌≡◌, ◌++◌, ◌∷◌, [], List, subst, ap, ◌∙◌, arith, rules}
use Rattle.pesp_search_least.specs.Sums.{InSome, Sums}
use Rattle.pesp_search_least.proofs.Budgets.{spends_on}
use Rattle.pesp_search_least.proofs.Stack.{to_expand-push, tree-halves, tree-some}
use Rattle.pesp_search_cycles.specs.Leaves.{sums_of}
use Rattle.pesp_search_cycles.specs.Splits.{size}
use Rattle.pesp_search_cycles.specs.declared.node.Node.{Node}
use Rattle.pesp_search_cycles.proofs.Covered.{AreCovered, covered_last, kept_more, least_of_kept, covered_halves, covered_nothing, covered_push, covered_same}
use Rattle.pesp_search_cycles.proofs.open.leaves_below.Goals as goal

pub nodes-smaller-in-Nothing-1 : goal.nodes-smaller-in-Nothing-1
nodes-smaller-in-Nothing-1 c =
    rw (c.in-Some.ensures.items, to_expand-push (λ (n : Node). size n.boxes) c.pop.new.self.items c.in-Some.node) (omega (arith, tree-some (size c.in-Some.node.boxes)))

pub nodes-preserved-in-Nothing-1 : goal.nodes-preserved-in-Nothing-1
nodes-preserved-in-Nothing-1 c =
    let N = c.args.stack.cycles.now in
    let all : Sums = InSome sums_of c.args.stack.nodes.items in
    record {
      covered = covered_nothing N c.args.limits.cap all c.nodes.leaves.boxes.items c.pop.new.self.items c.in-Some.node (rw c.in-Some.ensures.items at c.nodes.invariant.covered) (rw c.in-Nothing.is at c.in_ok-go_on.ensures.next);
      kept = c.nodes.invariant.kept;
      spent = spends_on _ _ _ c.nodes.invariant.spent c.in_ok-go_on.ensures.budget;
    }

pub nodes-smaller-in-Continue-branch-3 : goal.nodes-smaller-in-Continue-branch-3
nodes-smaller-in-Continue-branch-3 c =
    rw (c.in-Some.ensures.items, to_expand-push (λ (n : Node). size n.boxes) c.pop.new.self.items c.in-Some.node) (omega (arith, tree-some (size c.in-Some.node.boxes)))

pub nodes-preserved-in-Continue-branch-3 : goal.nodes-preserved-in-Continue-branch-3
nodes-preserved-in-Continue-branch-3 c =
    let N = c.args.stack.cycles.now in
    let all : Sums = InSome sums_of c.args.stack.nodes.items in
    record {
      covered = rw c.in_ok-push-in-Leaf.ensures.boxes (covered_push N c.args.limits.cap all c.nodes.leaves.boxes.items c.pop.new.self.items c.in-Some.node (rw c.in-Some.ensures.items at c.nodes.invariant.covered) c.go_on.new.node c.in_ok-go_on.ensures.cycles (rw c.in-Leaf.is at c.in_ok-go_on.ensures.next) c.in_ok-push-in-Leaf.ensures.fit);
      kept = rw c.in_ok-push-in-Leaf.ensures.boxes (kept_more N c.go_on.new.node.cycles.now c.args.limits.cap c.nodes.leaves.boxes.items c.nodes.leaves.least _ c.go_on.new.node.boxes c.nodes.invariant.kept c.in_ok-push-in-Leaf.ensures.least (ap (λ x. x.now) c.in_ok-go_on.ensures.cycles ∙ covered_same N c.args.limits.cap all c.nodes.leaves.boxes.items c.pop.new.self.items c.in-Some.node (rw c.in-Some.ensures.items at c.nodes.invariant.covered)) c.in_ok-push-in-Leaf.ensures.bound);
      spent = spends_on _ _ _ c.nodes.invariant.spent c.in_ok-go_on.ensures.budget;
    }

pub nodes-smaller : goal.nodes-smaller
nodes-smaller c =
    let ns = c.pop.new.self.items in
    let first = c.go_on.new.node in
    let second = c.in-Halves.other in
    let next = rw c.in-Halves.is at c.in_ok-go_on.ensures.next in
    rw (c.in-Some.ensures.items, c.in_ok-push_halves-in-Halves.ensures, to_expand-push (λ (n : Node). size n.boxes) ns c.in-Some.node)
    (omega (arith, tree-halves (size first.boxes) (size second.boxes) (size c.in-Some.node.boxes) next.0 next.1, to_expand-push (λ (n : Node). size n.boxes) (ns ++ second ∷ []) first, to_expand-push (λ (n : Node). size n.boxes) ns second))

pub nodes-preserved : goal.nodes-preserved
nodes-preserved c =
    let N = c.args.stack.cycles.now in
    let all : Sums = InSome sums_of c.args.stack.nodes.items in
    let node = c.in-Some.node in
    let first = c.go_on.new.node in
    let second = c.in-Halves.other in
    let next = rw c.in-Halves.is at c.in_ok-go_on.ensures.next in
    let is : AreCovered N c.args.limits.cap all c.nodes.leaves.boxes.items (c.pop.new.self.items ++ node ∷ []) = rw c.in-Some.ensures.items at c.nodes.invariant.covered in
    let same : node.cycles.now ≡ N = covered_same N c.args.limits.cap all c.nodes.leaves.boxes.items c.pop.new.self.items node is in
    record {
      covered = rw c.in_ok-push_halves-in-Halves.ensures (covered_halves N c.args.limits.cap all c.nodes.leaves.boxes.items c.pop.new.self.items node is first second (ap (λ x. x.now) c.in_ok-go_on.ensures.cycles ∙ same) (ap (λ x. x.now) next.2 ∙ same) next.3);
      kept = c.nodes.invariant.kept;
      spent = spends_on _ _ _ c.nodes.invariant.spent c.in_ok-go_on.ensures.budget;
    }

pub returns-in_err-push_halves-in-Halves-clause-budget : goal.returns-in_err-push_halves-in-Halves-clause-budget
returns-in_err-push_halves-in-Halves-clause-budget c = spends_on _ _ _ c.nodes.invariant.spent c.in_ok-go_on.ensures.budget

pub returns-clause-least : goal.returns-clause-least
returns-clause-least c =
    let N = c.args.stack.cycles.now in
    let all : Sums = InSome sums_of c.args.stack.nodes.items in
    let leaves = c.nodes.leaves.boxes.items in
    let none : c.nodes.nodes.items ≡ [] = search rules in
    least_of_kept N c.args.limits.cap all leaves c.nodes.leaves.least c.nodes.invariant.kept
    (covered_last N c.args.limits.cap all leaves (subst (λ (ns : List Node). AreCovered N c.args.limits.cap all leaves ns) none c.nodes.invariant.covered))
