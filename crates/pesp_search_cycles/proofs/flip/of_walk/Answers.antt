-- The residue at one event counts for nothing, and those at two come after the steps.
use Rattle.std.proofs.Common.{◌≡◌, ℤ, pos, neg_ℤ, ◌+ℤ◌, ◌*ℤ◌, List, get_or, sym, ap, subst, ◌∙◌, arith}
use Rattle.pesp_search_graph.specs.declared.step.Step.{Step}
use Rattle.pesp_search_cycles.specs.Ranges.{IsIn}
use Rattle.pesp_search_cycles.specs.Terms.{IsMade}
use Rattle.pesp_search_cycles.specs.Walks.{Path, residue, times}
use Rattle.pesp_search_cycles.proofs.Flipped.{back_again, with_ends}
use Rattle.pesp_search_cycles.proofs.flip.of_walk.Goals as goal

pub returns-then-walk : goal.returns-then-walk
returns-then-walk c zs inside =
    let arcs = c.args.arcs.now in
    let rest = c.args.rest in
    let walk = c.args.flip.now.walk in
    let same : walk.from ≡ walk.to = omega (arith, c.if-walk.true, ap (λ (p : Path). p.from) c.walk.view_is, ap (λ (p : Path). p.to) c.walk.view_is) in
    let steps : c.deref.result.now ≡ walk.steps = c.deref.ensures.value ∙ ap (λ (p : Path). p.steps) c.walk.view_is in
    subst (λ t. IsMade rest.period rest.rest c.in_ok-made.made zs t)
    (back_again (times arcs zs walk.steps) (residue arcs zs walk.from) (residue arcs zs walk.to) (ap (residue arcs zs) same))
    (subst (λ (ss : List Step). IsMade rest.period rest.rest c.in_ok-made.made zs (times arcs zs ss)) steps (c.in_ok-made.ensures zs inside))

pub returns : goal.returns
returns c zs inside =
    let arcs = c.args.arcs.now in
    let rest = c.args.rest in
    let walk = c.args.flip.now.walk in
    let f = c.in_ok-first.first in
    let l = c.in_ok-last.last in
    let x : ℤ = f.fixed +ℤ f.rate *ℤ pos (get_or zs f.number 0) in
    let y : ℤ = l.fixed +ℤ l.rate *ℤ pos (get_or zs l.number 0) in
    let first = c.in_ok-first.ensures zs inside in
    let last = c.in_ok-last.ensures zs inside in
    let from : x ≡ residue arcs zs walk.from = first.0 ∙ ap (λ (p : Path). residue arcs zs p.from) c.walk.view_is in
    let steps : c.deref.result.now ≡ walk.steps = c.deref.ensures.value ∙ ap (λ (p : Path). p.steps) c.walk.view_is in
    let to : y ≡ neg_ℤ (residue arcs zs walk.to) = last.0 ∙ ap (λ (p : Path). neg_ℤ (residue arcs zs p.to)) c.walk.view_is in
    let begun : IsMade rest.period rest.rest c.in_ok-begun.begun zs (times arcs zs walk.steps +ℤ x) =
    c.in_ok-begun.ensures zs (times arcs zs walk.steps) (subst (IsIn f.range) (sym first.0) first.1) (subst (λ (ss : List Step). IsMade rest.period rest.rest c.in_ok-made.made zs (times arcs zs ss)) steps (c.in_ok-made.ensures zs inside)) in
    subst (λ t. IsMade rest.period rest.rest c.in_ok-ended.ended zs t)
    (with_ends (times arcs zs walk.steps) x y (residue arcs zs walk.from) (residue arcs zs walk.to) from to)
    (c.in_ok-ended.ensures zs (times arcs zs walk.steps +ℤ x) (subst (IsIn l.range) (sym last.0) last.1) begun)
