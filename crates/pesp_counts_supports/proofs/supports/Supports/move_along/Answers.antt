-- The end is one that is listed, and so is its mate; the two ranges that are touched lie apart.
use Rattle.std.proofs.Common.{◌≡◌, ◌<◌, ◌≤◌, ℕ, ap, subst, ◌∙◌, arith}
use Rattle.pesp_counts_supports.specs.Moves.{is_touched}
use Rattle.pesp_counts_supports.specs.Restored.{in_ranges}
use Rattle.pesp_counts_supports.specs.Supports.{Supports}
use Rattle.pesp_counts_supports.proofs.Known.{end_known}
use Rattle.pesp_counts_supports.proofs.Moved.{along_both, second_can, sums_of}
use Rattle.pesp_counts_supports.proofs.supports.Supports.move_along.Goals as goal

pub end-near-requires : goal.end-near-requires
end-near-requires c = (c.requires.fit.linked.each c.requires.listed.0 c.args.number c.requires.listed.1).within

pub end-far-requires : goal.end-far-requires
end-far-requires c = (end_known _ _ c.requires.fit _ _ c.requires.listed.1 _ c.end-near.ensures).1.within

pub touched_ranges-ranges-requires-clause-first : goal.touched_ranges-ranges-requires-clause-first
touched_ranges-ranges-requires-clause-first c =
    let known = end_known _ _ c.requires.fit _ _ c.requires.listed.1 _ c.end-near.ensures in
    let period = c.get.ensures.value ∙ ap (λ (s : Supports). s.period) c.self.view_is in
    rw (c.end-near.ensures, period) known.0.first

pub touched_ranges-ranges-requires-clause-width : goal.touched_ranges-ranges-requires-clause-width
touched_ranges-ranges-requires-clause-width c =
    let known = end_known _ _ c.requires.fit _ _ c.requires.listed.1 _ c.end-near.ensures in
    let period = c.get.ensures.value ∙ ap (λ (s : Supports). s.period) c.self.view_is in
    rw (c.end-near.ensures, period) known.0.width

pub move_range-requires-clause-first : goal.move_range-requires-clause-first
move_range-requires-clause-first c = rw c.end-far.ensures (end_known _ _ c.requires.fit _ _ c.requires.listed.1 _ c.end-near.ensures).1.first

pub move_range-requires-clause-width : goal.move_range-requires-clause-width
move_range-requires-clause-width c = rw c.end-far.ensures (end_known _ _ c.requires.fit _ _ c.requires.listed.1 _ c.end-near.ensures).1.width

pub move_range-requires-clause-block : goal.move_range-requires-clause-block
move_range-requires-clause-block c = (end_known _ _ c.requires.fit _ _ c.requires.listed.1 _ c.end-near.ensures).3

pub move_range-requires-2-clause-first : goal.move_range-requires-2-clause-first
move_range-requires-2-clause-first c =
    rw (ap (λ (s : Supports). s.period) c.move_range.ensures.only.same, c.end-far.ensures)
    (end_known _ _ c.requires.fit _ _ c.requires.listed.1 _ c.end-near.ensures).1.first

pub move_range-requires-2-clause-width : goal.move_range-requires-2-clause-width
move_range-requires-2-clause-width c =
    rw (ap (λ (s : Supports). s.period) c.move_range.ensures.only.same, c.end-far.ensures)
    (end_known _ _ c.requires.fit _ _ c.requires.listed.1 _ c.end-near.ensures).1.width

pub move_range-requires-2-clause-block : goal.move_range-requires-2-clause-block
move_range-requires-2-clause-block c =
    rw (ap (λ (s : Supports). s.period) c.move_range.ensures.only.same, c.move_range.ensures.only.long)
    (end_known _ _ c.requires.fit _ _ c.requires.listed.1 _ c.end-near.ensures).3

pub move_range-requires-2-clause-can : goal.move_range-requires-2-clause-can
move_range-requires-2-clause-can c =
    let start = c.args.self.now in
    let same = c.move_range.ensures.only.same in
    let w = c.touched_ranges-ranges.result in
    let touched = c.touched_ranges-ranges.ensures in
    let (D, is, can) = c.requires.can in
    let are = sums_of start.period c.args.moved start.sums D is in
    let top : w.start ≤ start.period = omega (arith, touched.order, touched.below, c.get.ensures.value, ap (λ (s : Supports). s.period) c.self.view_is) in
    rw (ap (λ (s : Supports). s.period) same, ap (λ (s : Supports). s.sums) same)
    (D, are, second_can c.args.way start.period c.args.links.now.ends c.args.number D w touched.wrapped c.end-near.result c.end-far.result c.end-near.ensures c.end-far.ensures start.counts c.move_range.new.self.counts (c.move_range.ensures.moved D are) top can)

pub returns-clause-moved : goal.returns-clause-moved
returns-clause-moved c D is =
    let start = c.args.self.now in
    let mid = c.move_range.new.self in
    let links = c.args.links.now in
    let w = c.touched_ranges-ranges.result in
    let near = c.end-near.result in
    let touched = c.touched_ranges-ranges.ensures in
    let same = ap (λ (s : Supports). s.period) c.move_range.ensures.only.same in
    let are = sums_of start.period c.args.moved start.sums D is in
    let again = c.move_range-2.ensures.moved D (rw (same, ap (λ (s : Supports). s.sums) c.move_range.ensures.only.same) are) in
    let all : (s : ℕ) → s < start.period → in_ranges w s ≡ is_touched start.period c.args.moved near s =
    subst (λ n. (s : ℕ) → s < n → in_ranges w s ≡ is_touched n c.args.moved near s) (c.get.ensures.value ∙ ap (λ (s : Supports). s.period) c.self.view_is) touched.touched
    in
    along_both c.args.way start.period links.ends c.args.number D w touched.wrapped near c.end-far.result c.end-near.ensures c.end-far.ensures start.counts mid.counts (c.move_range.ensures.moved D are)
    links.lists c.requires.listed.0 c.args.moved start.sums c.move_range-2.new.self.counts c.requires.fit.linked c.requires.listed.1 is all (rw same at again)
