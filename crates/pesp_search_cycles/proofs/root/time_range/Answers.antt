-- One step more.
use Rattle.std.proofs.Common.{◌≡◌, ℤ, pos, ◌+ℤ◌, ◌-ℤ◌, false, get_or, sym, ap, subst, arith}
use Rattle.pesp_search_graph.specs.declared.arc.Arc.{Arc}
use Rattle.pesp_search_graph.specs.declared.step.Step.{Step}
use Rattle.pesp_search_cycles.specs.Ranges.{IsIn, no_range, width}
use Rattle.pesp_search_cycles.specs.Walks.{arc_at, no_arc, signed, time_of}
use Rattle.pesp_search_cycles.proofs.Ranged.{all_steps, one_before, with_step}
use Rattle.pesp_search_cycles.proofs.Totals.{AreIn-at}
use Rattle.pesp_search_cycles.proofs.Widths.{widths_from}
use Rattle.pesp_search_cycles.proofs.root.time_range.Goals as goal

pub loop-step-preserved : goal.loop-step-preserved
loop-step-preserved c =
    let steps = c.args.steps.now in
    let arcs = c.args.arcs.now in
    let numbers = c.args.numbers.now in
    let i = c.loop-step.step-index in
    let none : Step = record { arc = 0; along = false } in
    let s = get_or steps i none in
    let l = c.in_ok-arc.ensures.lookup in
    let m = c.in_ok-slacks.ensures.lookup in
    let same : c.in_ok-arc.arc.now ≡ arc_at arcs s.arc = l.3.1 no_arc in
    let slacks : c.in_ok-slacks.slacks.now ≡ get_or numbers s.arc no_range = m.3.1 no_range in
    record {
      inside = λ zs inside z e.
          let t : ℤ = time_of arcs zs s in
          let before : IsIn c.loop-step.range (z -ℤ t) = c.loop-step.invariant.inside zs inside (z -ℤ t) (one_before arcs zs steps i none z (omega arith) e) in
          let y = get_or zs s.arc 0 in
          let slack : IsIn c.in_ok-slacks.slacks.now (pos y) =
          subst (λ r. IsIn r (pos y)) (sym slacks) (AreIn-at numbers zs s.arc no_range inside m.3.0) in
          let here : IsIn c.in_ok-step_range.field-0 t =
          subst (λ (a : Arc). IsIn c.in_ok-step_range.field-0 (signed s.along (a.span.lower +ℤ pos y))) same (c.in_ok-step_range.ensures.inside y slack) in
          with_step c.in_ok-range.range z t (c.in_ok-range.ensures.inside (z -ℤ t) t before here);
      narrow =
          omega (arith, c.loop-step.invariant.narrow, widths_from numbers steps i none (omega arith), c.in_ok-range.ensures.narrow, c.in_ok-step_range.ensures.narrow, ap width slacks);
    }

pub returns-clause-inside : goal.returns-clause-inside
returns-clause-inside c zs inside = c.loop-step.invariant.inside zs inside _ (all_steps c.args.arcs.now zs c.args.steps.now c.loop-step.step-index (omega arith))

pub returns-clause-narrow : goal.returns-clause-narrow
returns-clause-narrow c = omega (arith, c.loop-step.invariant.narrow)
