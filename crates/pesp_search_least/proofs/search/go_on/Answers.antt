-- The search goes from node to node.
use Rattle.std.proofs.Common.{◌≡◌, ◌++◌, ◌∷◌, [], ◌∙◌, None, inr, arith}
use Rattle.std.proofs.lemmas.List.Elements.{All-pop}
use Rattle.pesp_search_least.specs.Reached.{IsReached}
use Rattle.pesp_search_least.proofs.Stack.{all_popped, all_pushed, to_expand-push, tree-halves, tree-some}
use Rattle.pesp_search_least.proofs.Underway.{begun_expansion, underway_closed, underway_halves}
use Rattle.pesp_search_least.proofs.Expanded.{better_limit, expanded_alone}
use Rattle.pesp_search_least.proofs.search.go_on.Goals as goal
use Rattle.pesp_search_least.proofs.search.go_on.Goals.{then-expansions-test+else-not-is_empty, else-expansions-test, then-expansions-test+then-not-is_empty+else-is_spent+in_default}

pub expansions-smaller : goal.expansions-smaller
expansions-smaller g c =
    rw (c.in-Some.ensures.items, to_expand-push g.R.Relaxation.size c.pop.new.self.items c.in-Some.node) (omega (arith, tree-some (g.R.Relaxation.size c.in-Some.node)))

pub expansions-preserved : goal.expansions-preserved
expansions-preserved g c =
    let sums = g.R.Relaxation.sums in
    let root = IsReached sums c.args.nodes.now.items c.args.best in
    let before = c.expansions.incumbent in
    let after = c.expand.new.incumbent in
    let expand = c.in_ok-other.ensures in
    let is = rw c.in-Some.ensures.items at c.expansions.invariant.underway in
    let expanded = rw expand.cap at expand.expanded in
    let bound = expanded_alone _ sums g.R.Relaxation.size c.in-Some.node c.expand.new.node c.in_ok-other.field-0 c.in_default-2.not-Some expanded in
    record {
      underway = rw expand.cap (underway_closed sums root c.pop.new.self.items c.in-Some.node before.cap before.best after.best is expand.better bound);
      base = λ b all. (all_popped (λ (n : g.row.R.Denot). g.R.Relaxation.base n ≡ b) c.pop.new.self.items c.in-Some.node (rw c.in-Some.ensures.items at c.expansions.invariant.base b all)).0;
      better = rw expand.cap (omega (arith, better_limit (sums c.in-Some.node) before.cap before.best after.best expand.better, c.expansions.invariant.better));
      cap = expand.cap ∙ c.expansions.invariant.cap;
      begun = inr (begun_expansion c.args.nodes.now.items c.args.best c.expansions.nodes.items before.best c.args.budget.now.left c.expansions.budget.left c.expand.new.budget.left c.expansions.invariant.begun expand.budget);
    }

pub expansions-smaller-in-Continue-branch-3 : goal.expansions-smaller-in-Continue-branch-3
expansions-smaller-in-Continue-branch-3 g c =
    let size = g.R.Relaxation.size in
    let ns = c.pop.new.self.items in
    let expanded = rw c.in-Some-2.is at c.in_ok-other.ensures.expanded in
    rw (c.in-Some.ensures.items, c.in_ok-push_halves.ensures, to_expand-push size ns c.in-Some.node)
    (omega (arith, tree-halves (size c.expand.new.node) (size c.in-Some-2.other) (size c.in-Some.node) expanded.0 expanded.1, to_expand-push size (ns ++ c.in-Some-2.other ∷ []) c.expand.new.node, to_expand-push size ns c.in-Some-2.other))

pub expansions-preserved-in-Continue-branch-3 : goal.expansions-preserved-in-Continue-branch-3
expansions-preserved-in-Continue-branch-3 g c =
    let sums = g.R.Relaxation.sums in
    let root = IsReached sums c.args.nodes.now.items c.args.best in
    let before = c.expansions.incumbent in
    let after = c.expand.new.incumbent in
    let expand = c.in_ok-other.ensures in
    let is = rw c.in-Some.ensures.items at c.expansions.invariant.underway in
    let expanded = rw (expand.cap, c.in-Some-2.is) at expand.expanded in
    record {
      underway = rw (expand.cap, c.in_ok-push_halves.ensures) (underway_halves sums root c.pop.new.self.items c.in-Some.node c.expand.new.node c.in-Some-2.other before.cap before.best after.best is expand.better expanded.2);
      base = λ b all.
          let under = all_popped (λ (n : g.row.R.Denot). g.R.Relaxation.base n ≡ b) c.pop.new.self.items c.in-Some.node (rw c.in-Some.ensures.items at c.expansions.invariant.base b all) in
          rw c.in_ok-push_halves.ensures
          (all_pushed (λ (n : g.row.R.Denot). g.R.Relaxation.base n ≡ b) c.pop.new.self.items c.expand.new.node c.in-Some-2.other under.0 (expand.base ∙ under.1) ((rw c.in-Some-2.is at expand.other) ∙ under.1));
      better = rw expand.cap (omega (arith, better_limit (sums c.in-Some.node) before.cap before.best after.best expand.better, c.expansions.invariant.better));
      cap = expand.cap ∙ c.expansions.invariant.cap;
      begun = inr (begun_expansion c.args.nodes.now.items c.args.best c.expansions.nodes.items before.best c.args.budget.now.left c.expansions.budget.left c.expand.new.budget.left c.expansions.invariant.begun expand.budget);
    }

pub returns-clause-base : goal.returns-clause-base
returns-clause-base g c = λ b all.
    elim c.expansions-test.branch [
      | then-expansions-test+else-not-is_empty w ↦ rw w.nodes-is (c.expansions.invariant.base b all)
      | else-expansions-test w ↦ rw w.nodes-is (c.expansions.invariant.base b all)
      | then-expansions-test+then-not-is_empty+else-is_spent+in_default w ↦ rw w.nodes-is ((All-pop (λ (n : g.row.R.Denot). g.R.Relaxation.base n ≡ b) c.expansions.nodes.items w.pop.new.self.items None w.in_default.ensures.items (c.expansions.invariant.base b all)).0)
    ]
