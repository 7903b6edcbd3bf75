-- The one range is brought, and then the other.
use Rattle.std.proofs.Common.{◌||◌, subst}
use Rattle.pesp_counts_supports.specs.Blocks.{of_met}
use Rattle.pesp_counts_supports.specs.Restored.{IsBrought, of_range, of_ranges}
use Rattle.pesp_counts_supports.proofs.Brought.{brought_as, brought_then, ranges_both}
use Rattle.pesp_counts_supports.proofs.Meeting.{met_then}
use Rattle.pesp_counts_supports.proofs.supports.Supports.bring_ranges.Goals as goal

pub returns-clause-brought : goal.returns-clause-brought
returns-clause-brought c =
    let w = c.args.ranges in
    let met = c.args.met in
    let place = c.args.place in
    let start = c.args.self.now in
    let mid = c.bring_range.new.self in
    let after = c.bring_range-2.new.self in
    let back = c.args.back.now in
    let more = c.bring_range.new.back in
    let now = c.bring_range-2.new.back in
    let first = of_met start.sums met (of_range place w.start w.end) in
    let second = of_met start.sums met (of_range place 0 w.wrapped) in
    let came = subst (λ xs. IsBrought (of_met xs met (of_range place 0 w.wrapped)) mid after more now) c.bring_range.ensures.brought.sums c.bring_range-2.ensures.brought in
    brought_as (λ p r. first p r || second p r) (of_met start.sums met (of_ranges place w)) start after back now
    (met_then start.sums met (of_range place w.start w.end) (of_range place 0 w.wrapped) (of_ranges place w) (ranges_both place w))
    (brought_then first second start mid after back more now c.bring_range.ensures.brought came)
