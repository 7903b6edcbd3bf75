-- The fixed time of the arc, and its slack along or against.
use Rattle.std.proofs.Common.{◌≡◌, pos, neg_ℤ, ◌+ℤ◌, ◌-ℤ◌, get_or, FitsSigned, to_z, of_z, w32, w64, sym, ap, subst, ◌∙◌, arith, rules}
use Rattle.std.proofs.lemmas.Int.{ints}
use Rattle.pesp_search_graph.specs.declared.arc.Arc.{Arc}
use Rattle.pesp_search_cycles.specs.Ranges.{IsIn, no_range}
use Rattle.pesp_search_cycles.specs.Walks.{arc_at, no_arc, signed, time_of}
use Rattle.pesp_search_cycles.proofs.Flipped.{against_once, once}
use Rattle.pesp_search_cycles.proofs.Totals.{AreIn-at}
use Rattle.pesp_search_cycles.proofs.flip.step_piece.Goals as goal

pub returns-then-step : goal.returns-then-step
returns-then-step c zs inside =
    let arcs = c.args.arcs.now in
    let s = c.args.step in
    let y = get_or zs s.arc 0 in
    let l = c.in_ok-arc.ensures.lookup in
    let m = c.in_ok-slacks.ensures.lookup in
    let same : c.in_ok-arc.arc.now ≡ arc_at arcs s.arc = l.3.1 no_arc in
    let slack : IsIn c.in_ok-slacks.slacks.now (pos y) =
    subst (λ r. IsIn r (pos y)) (sym (m.3.1 no_range)) (AreIn-at c.args.numbers.now zs s.arc no_range inside m.3.0) in
    let here : IsIn c.in_ok-range.range (time_of arcs zs s) =
    subst (λ (a : Arc). IsIn c.in_ok-range.range (signed s.along (a.span.lower +ℤ pos y))) same (c.in_ok-range.ensures.inside y slack) in
    let low_fits : FitsSigned w32 c.lower.result = search rules in
    let low : to_z w64 (of_z w64 c.from-lower.result) ≡ c.lower.result = omega (arith, ints, c.from-lower.ensures, low_fits) in
    let lower : to_z w64 (of_z w64 c.from-lower.result) ≡ (arc_at arcs s.arc).span.lower = low ∙ c.lower.ensures.value ∙ ap (λ (a : Arc). a.span.lower) same in
    (once _ (arc_at arcs s.arc).span.lower y lower ∙ sym (ap (λ b. signed b ((arc_at arcs s.arc).span.lower +ℤ pos y)) c.if-step.true), here)

pub returns-else-step : goal.returns-else-step
returns-else-step c zs inside =
    let arcs = c.args.arcs.now in
    let s = c.args.step in
    let y = get_or zs s.arc 0 in
    let l = c.in_ok-arc.ensures.lookup in
    let m = c.in_ok-slacks.ensures.lookup in
    let same : c.in_ok-arc.arc.now ≡ arc_at arcs s.arc = l.3.1 no_arc in
    let slack : IsIn c.in_ok-slacks.slacks.now (pos y) =
    subst (λ r. IsIn r (pos y)) (sym (m.3.1 no_range)) (AreIn-at c.args.numbers.now zs s.arc no_range inside m.3.0) in
    let here : IsIn c.in_ok-range.range (time_of arcs zs s) =
    subst (λ (a : Arc). IsIn c.in_ok-range.range (signed s.along (a.span.lower +ℤ pos y))) same (c.in_ok-range.ensures.inside y slack) in
    let low_fits : FitsSigned w32 c.lower.result = search rules in
    let low : to_z w64 (of_z w64 (pos 0 -ℤ to_z w64 (of_z w64 c.from-lower.result))) ≡ neg_ℤ c.lower.result = omega (arith, ints, c.from-lower.ensures, low_fits) in
    let lower : to_z w64 (of_z w64 (pos 0 -ℤ to_z w64 (of_z w64 c.from-lower.result))) ≡ neg_ℤ (arc_at arcs s.arc).span.lower = low ∙ ap neg_ℤ (c.lower.ensures.value ∙ ap (λ (a : Arc). a.span.lower) same) in
    (against_once _ (arc_at arcs s.arc).span.lower y lower ∙ sym (ap (λ b. signed b ((arc_at arcs s.arc).span.lower +ℤ pos y)) c.if-step.false), here)
