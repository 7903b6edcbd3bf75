-- One step more.
use Rattle.std.proofs.Common.{◌≡◌, ◌<◌, false, ℤ, pos, ◌+ℤ◌, ◌-ℤ◌, ◌*ℤ◌, length, get_or, sym, subst, arith}
use Rattle.pesp_search_graph.specs.declared.step.Step.{Step}
use Rattle.pesp_search_cycles.specs.Ranges.{IsIn}
use Rattle.pesp_search_cycles.specs.Terms.{IsMade}
use Rattle.pesp_search_cycles.specs.Walks.{time_of}
use Rattle.pesp_search_cycles.proofs.Ranged.{again, one_before}
use Rattle.pesp_search_cycles.proofs.flip.of_steps.Goals as goal

pub loop-index-preserved : goal.loop-index-preserved
loop-index-preserved c zs inside z e =
    let arcs = c.args.arcs.now in
    let rest = c.args.rest in
    let steps = c.args.steps.now in
    let i = c.loop-index.index in
    let none : Step = record { arc = 0; along = false } in
    let p = c.in_ok-piece.piece in
    let x : ℤ = p.fixed +ℤ p.rate *ℤ pos (get_or zs p.number 0) in
    let here : i < length steps = omega arith in
    let told = c.in_ok-piece.ensures zs inside in
    let time : x ≡ time_of arcs zs (get_or steps i none) = told.0 in
    let before : IsMade rest.period rest.rest c.loop-index.made zs (z -ℤ x) =
    subst (λ t. IsMade rest.period rest.rest c.loop-index.made zs (z -ℤ t)) (sym time) (c.loop-index.invariant zs inside (z -ℤ time_of arcs zs (get_or steps i none)) (one_before arcs zs steps i none z here e)) in
    subst (λ t. IsMade rest.period rest.rest c.in_ok-made.made zs t) (again z x)
    (c.in_ok-made.ensures zs (z -ℤ x) (subst (IsIn p.range) (sym told.0) told.1) before)
