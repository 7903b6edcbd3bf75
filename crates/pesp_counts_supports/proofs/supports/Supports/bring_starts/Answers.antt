-- What is admitted at one place more is brought.
use Rattle.std.proofs.Common.{◌+◌, ◌-◌, ◌||◌, ℕ, None, get_or, take, ap, ◌∙◌, arith}
use Rattle.std.proofs.Math.Bool.{and-true as all_and}
use Rattle.std.specs.Option.{unwrap_or}
use Rattle.pesp_counts_arcs.specs.declared.end.Ranges.{Ranges}
use Rattle.pesp_counts_supports.specs.Blocks.{of_met}
use Rattle.pesp_counts_supports.specs.Restored.{AreRanges, of_ranges, of_start, of_starts}
use Rattle.pesp_counts_supports.specs.Supports.{Supports}
use Rattle.pesp_counts_supports.proofs.Along.{AreTold, told, unmet_none, whole}
use Rattle.pesp_counts_supports.proofs.AlongEnds.{starts_one}
use Rattle.pesp_counts_supports.proofs.Brought.{brought_as, brought_then}
use Rattle.pesp_counts_supports.proofs.supports.Supports.bring_starts.Goals as goal
use Rattle.pesp_counts_supports.proofs.supports.Supports.bring_starts.Goals.{After-unwrap_or-ranges}

abbrev all : ℕ → Ranges
all T = record { start = 0; end = T; wrapped = 0 }

all_are : (T : ℕ) → AreRanges T (all T)
all_are T = record { order = omega arith; below = omega arith; wrapped = omega arith }

-- the ranges are those that are told, or all
taken : (c : After-unwrap_or-ranges) → AreTold c.args.self.now.period c.args.instance.now c.args.links.now (get_or c.args.starts.now c.loop-place.place-index 0) c.loop-place.self.sums None c.unwrap_or-ranges.result
taken c =
    let T = c.args.self.now.period in
    let period_is = c.get.ensures.value ∙ ap (λ (s : Supports). s.period) c.self.view_is in
    told T c.args.instance.now c.args.links.now (get_or c.args.starts.now c.loop-place.place-index 0) c.loop-place.self.sums None c.requires.period c.admitted_at.result (all T) c.unwrap_or-ranges.result (all_are T) (λ r below h. whole T r below)
    c.admitted_at.ensures.some c.admitted_at.ensures.none (c.unwrap_or-ranges.ensures ∙ ap (λ n. unwrap_or c.admitted_at.result (all n)) period_is)

pub loop-place-preserved : goal.loop-place-preserved
loop-place-preserved c =
    let I = c.args.instance.now in
    let links = c.args.links.now in
    let starts = c.args.starts.now in
    let i = c.loop-place.place-index in
    let may = of_starts I links (take i starts) in
    let new = of_start I links (get_or starts i 0) in
    let inv = c.loop-place.invariant in
    let start = c.args.self.now in
    let now = c.loop-place.self in
    let after = c.bring_ranges.new.self in
    let w = c.unwrap_or-ranges.result in
    let came = brought_as (of_met now.sums None (of_ranges (get_or starts i 0) w)) new now after c.loop-place.back c.bring_ranges.new.back
    (λ p r. (taken (goal.at.loop-place-preserved c).After-unwrap_or-ranges).brings p r ∙ all_and (new p r)) c.bring_ranges.ensures.brought
    in
    let first = unmet_none now.sums w.start (w.end - w.start) in
    let second = unmet_none now.sums 0 w.wrapped in
    record {
      brought = brought_as (λ p r. may p r || new p r) (of_starts I links (take (i + 1) starts)) start after c.args.back.now c.bring_ranges.new.back
          (starts_one I links starts i c.loop-place-test.true)
          (brought_then may new start now after c.args.back.now c.loop-place.back c.bring_ranges.new.back inv.brought came);
      probes = omega (arith, first, second, c.bring_ranges.ensures.probes, inv.probes);
    }
