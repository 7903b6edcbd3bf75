-- One rate less, and the fixed time.
use Rattle.std.proofs.Common.{◌≡◌, ℤ, neg_ℤ, ◌*ℤ◌, pos, get_or, FitsSigned, to_z, of_z, w32, w64, sym, ap, ◌∙◌, arith, rules}
use Rattle.std.proofs.lemmas.Int.{ints}
use Rattle.std.proofs.lemmas.List.{get_or_read}
use Rattle.pesp_search_cycles.specs.Walks.{arc_at, no_arc, signed}
use Rattle.pesp_search_cycles.proofs.Numbers.{back}
use Rattle.pesp_search_cycles.proofs.Taken.{step_taken}
use Rattle.pesp_search_cycles.proofs.terms.take_step.Goals as goal
use Rattle.pesp_search_cycles.proofs.terms.take_step.Goals.{then-step, else-step+in_ok-part}

pub returns-clause-taken : goal.returns-clause-taken
returns-clause-taken c ys long =
    let part : ℤ = to_z w64 c.if-step.part-bits in
    let along = c.args.step.along in
    let m : ℤ = c.args.multiplier in
    let part_is : part ≡ signed along m =
    elim c.if-step.branch [
      | then-step w ↦
          let e : part ≡ m = omega (arith, ints, w.part-is, c.ranges.multiplier) in
          e ∙ sym (ap (λ b. signed b m) w.if-step.true)
      | else-step+in_ok-part w ↦
          let e : part ≡ neg_ℤ m = omega (arith, ints, w.part-is, w.in_ok-part.ensures, c.ranges.multiplier) in
          e ∙ sym (ap (λ b. signed b m) w.if-step.false)
    ] in
    let low_fits : FitsSigned w32 c.lower.result = search rules in
    let low : to_z w64 (of_z w64 c.from.result) ≡ c.lower.result = omega (arith, ints, c.from.ensures, low_fits) in
    let lower : c.lower.result ≡ (arc_at c.args.arcs.now c.args.step.arc).span.lower =
    c.lower.ensures.value ∙ ap (λ a. a.span.lower) (get_or_read c.args.arcs.now c.args.step.arc c.index-arcs-step.result c.requires.arc c.index-arcs-step.is no_arc) in
    let fixed_fits : FitsSigned w64 c.in_ok-fixed.fixed = search rules in
    let rate_fits : FitsSigned w64 (get_or c.args.rates.now c.args.step.arc (pos 0)) = search rules in
    step_taken c.args.arcs.now ys c.args.rates.now c.args.step m part (to_z w64 (of_z w64 c.in_ok-fixed.fixed)) c.args.sum (to_z w64 (of_z w64 c.in_ok-less.less)) (to_z w64 (of_z w64 c.in_ok-rates.field-0)) c.requires.rates long part_is
    (back _ fixed_fits ∙ c.in_ok-fixed.ensures.1 ∙ ap (λ l. part *ℤ l) (low ∙ lower))
    (omega (arith, ints, c.in_ok-less.ensures, c.ranges.sum))
    (omega (arith, ints, c.in_ok-rates.ensures, rate_fits))
