-- Leaf by leaf: each has maps of all with a lesser residue, and together they have all of these.
use Rattle.std.proofs.Common.{◌+◌, ◌<◌, length, ap, ◌∙◌, arith}
use Rattle.pesp_search_least.specs.declared.outcome.Outcome.TheVariants.{Found, NoneBelow, Spent}
use Rattle.pesp_search_least.specs.Sums.{IsOutcome}
use Rattle.pesp_search_least.proofs.Budgets.{spends_on}
use Rattle.pesp_search_cycles.specs.Maps.{IsHere}
use Rattle.pesp_search_cycles.proofs.Asked.{floor_of_leaf, found_in_leaf, none_in_all, none_in_leaf, spent_in_leaf}
use Rattle.pesp_search_cycles.proofs.held.HeldRegion.least_below.Goals as goal

pub answer-requires-clause-floor : goal.answer-requires-clause-floor
answer-requires-clause-floor c map sum s =
    let self = c.args.self.now in
    let here : c.args.event < length self.residues.items = omega (arith, c.requires.event, c.args.self.now.long) in
    let h : c.loop-leaf.leaf < length self.leaves.boxes.items = omega (arith, c.loop-leaf-test.true, c.len-leaf-end.ensures) in
    let floor =
    floor_of_leaf self.cycles.now self.residues.items c.in_ok-question.question.residues.items self.leaves.boxes.items c.args.event c.args.residue c.index.result.now c.below.result c.args.cost here
    c.index.ensures (ap (λ v. v.items) c.in_ok-question.ensures.residues ∙ c.in_ok-residues.ensures) c.below.ensures c.requires.floor
    c.loop-leaf.leaf c.index-boxes.result.now h c.index-boxes.ensures map sum s in
    omega (arith, floor, c.in_ok-question.ensures.cost)

pub returns-in-Found-clause-outcome : goal.returns-in-Found-clause-outcome
returns-in-Found-clause-outcome c =
    let self = c.args.self.now in
    let here : c.args.event < length self.residues.items = omega (arith, c.requires.event, c.args.self.now.long) in
    let h : c.loop-leaf.leaf < length self.leaves.boxes.items = omega (arith, c.loop-leaf-test.true, c.len-leaf-end.ensures) in
    let told : IsOutcome (IsHere self.cycles.now c.in_ok-question.question.residues.items c.index-boxes.result.now) (c.args.cost + 1) (Found c.in-Found.found) =
    rw c.in_ok-question.ensures.cost at (rw c.in-Found.is at c.in_ok-answer.ensures.outcome) in
    found_in_leaf self.cycles.now self.residues.items c.in_ok-question.question.residues.items self.leaves.boxes.items c.args.event c.args.residue c.index.result.now c.below.result c.args.cost here
    c.index.ensures (ap (λ v. v.items) c.in_ok-question.ensures.residues ∙ c.in_ok-residues.ensures) c.below.ensures c.requires.floor
    c.loop-leaf.leaf c.index-boxes.result.now h c.index-boxes.ensures c.in-Found.found told

pub returns-in-Spent-clause-outcome : goal.returns-in-Spent-clause-outcome
returns-in-Spent-clause-outcome c =
    let self = c.args.self.now in
    let here : c.args.event < length self.residues.items = omega (arith, c.requires.event, c.args.self.now.long) in
    let h : c.loop-leaf.leaf < length self.leaves.boxes.items = omega (arith, c.loop-leaf-test.true, c.len-leaf-end.ensures) in
    let told : IsOutcome (IsHere self.cycles.now c.in_ok-question.question.residues.items c.index-boxes.result.now) (c.args.cost + 1) (Spent c.in-Spent.best c.in-Spent.lower_bound) =
    rw c.in_ok-question.ensures.cost at (rw c.in-Spent.is at c.in_ok-answer.ensures.outcome) in
    spent_in_leaf self.cycles.now self.residues.items c.in_ok-question.question.residues.items self.leaves.boxes.items c.args.event c.args.residue c.index.result.now c.below.result c.args.cost here
    c.index.ensures (ap (λ v. v.items) c.in_ok-question.ensures.residues ∙ c.in_ok-residues.ensures) c.below.ensures c.requires.floor
    c.loop-leaf.leaf c.index-boxes.result.now h c.index-boxes.ensures c.in-Spent.best c.in-Spent.lower_bound told

pub loop-leaf-preserved : goal.loop-leaf-preserved
loop-leaf-preserved c =
    let self = c.args.self.now in
    let here : c.args.event < length self.residues.items = omega (arith, c.requires.event, c.args.self.now.long) in
    let h : c.loop-leaf.leaf < length self.leaves.boxes.items = omega (arith, c.loop-leaf-test.true, c.len-leaf-end.ensures) in
    let told : IsOutcome (IsHere self.cycles.now c.in_ok-question.question.residues.items c.index-boxes.result.now) (c.args.cost + 1) NoneBelow =
    rw c.in_ok-question.ensures.cost at (rw c.in-NoneBelow.is at c.in_ok-answer.ensures.outcome) in
    record {
      none =
          none_in_leaf self.cycles.now self.residues.items c.in_ok-question.question.residues.items self.leaves.boxes.items c.args.event c.args.residue c.index.result.now c.below.result c.args.cost here
          c.index.ensures (ap (λ v. v.items) c.in_ok-question.ensures.residues ∙ c.in_ok-residues.ensures) c.below.ensures c.requires.floor
          c.loop-leaf.leaf c.index-boxes.result.now h c.index-boxes.ensures c.loop-leaf.invariant.none told;
      spent = spends_on _ _ _ c.loop-leaf.invariant.spent c.in_ok-answer.ensures.budget;
    }

pub returns-clause-outcome : goal.returns-clause-outcome
returns-clause-outcome c =
    let self = c.args.self.now in
    let here : c.args.event < length self.residues.items = omega (arith, c.requires.event, c.args.self.now.long) in
    none_in_all self.cycles.now self.residues.items c.in_ok-question.question.residues.items self.leaves.boxes.items c.args.event c.args.residue c.index.result.now c.below.result c.args.cost here
    c.index.ensures (ap (λ v. v.items) c.in_ok-question.ensures.residues ∙ c.in_ok-residues.ensures) c.below.ensures c.requires.floor
    c.loop-leaf.leaf (omega (arith, c.loop-leaf-test.false, c.len-leaf-end.ensures)) c.loop-leaf.invariant.none
