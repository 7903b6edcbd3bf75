-- The steps, and then the ends.
use Rattle.std.proofs.Common.{◌≡◌, ◌≤◌, List, subst, ap, ◌∙◌, arith}
use Rattle.pesp_search_graph.specs.declared.step.Step.{Step}
use Rattle.pesp_search_cycles.specs.Ranges.{IsIn, width}
use Rattle.pesp_search_cycles.specs.Walks.{Path, ends, times, widths}
use Rattle.pesp_search_cycles.proofs.root.walk_range.Goals as goal

pub returns-clause-inside : goal.returns-clause-inside
returns-clause-inside c zs inside =
    let arcs = c.args.arcs.now in
    let walk = c.args.walk.now in
    let steps_are : c.deref.result.now ≡ walk.steps = c.deref.ensures.value ∙ ap (λ (p : Path). p.steps) c.walk.view_is in
    let steps : IsIn c.in_ok-steps.steps (times arcs zs walk.steps) =
    subst (λ (ss : List Step). IsIn c.in_ok-steps.steps (times arcs zs ss)) steps_are (c.in_ok-steps.ensures.inside zs inside) in
    c.in_ok-range.ensures.inside (times arcs zs walk.steps) (ends arcs zs walk) steps (c.in_ok-ends.ensures.inside zs inside)

pub returns-clause-closed : goal.returns-clause-closed
returns-clause-closed c closed =
    let numbers = c.args.numbers.now in
    let walk = c.args.walk.now in
    let steps_are : c.deref.result.now ≡ walk.steps = c.deref.ensures.value ∙ ap (λ (p : Path). p.steps) c.walk.view_is in
    let steps : width c.in_ok-steps.steps ≤ widths numbers walk.steps =
    subst (λ (ss : List Step). width c.in_ok-steps.steps ≤ widths numbers ss) steps_are c.in_ok-steps.ensures.narrow in
    omega (arith, c.in_ok-range.ensures.narrow, steps, c.in_ok-ends.ensures.closed closed)
