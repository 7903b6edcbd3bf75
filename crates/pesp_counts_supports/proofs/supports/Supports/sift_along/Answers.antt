-- The two ranges, one after the other.
use Rattle.std.proofs.Common.{◌≡◌, ◌<◌, ◌≤◌, ◌+◌, ◌*◌, ◌==◌, ◌&&◌, not, ℕ, Bool, length, sym, ap, subst, ◌∙◌, arith}
use Rattle.pesp_counts_arcs.specs.declared.end.End.{End}
use Rattle.pesp_counts_arcs.specs.Ends.{IsEndAt, end_at}
use Rattle.pesp_counts_supports.specs.Counts.{count_at, has_at}
use Rattle.pesp_counts_supports.specs.Moves.{is_touched}
use Rattle.pesp_counts_supports.specs.Restored.{in_ranges}
use Rattle.pesp_counts_supports.specs.Supports.{Supports}
use Rattle.pesp_counts_supports.proofs.Rows.{Clears}
use Rattle.pesp_counts_supports.proofs.Sifted.{clears_both}
use Rattle.pesp_counts_supports.proofs.Taken.{takes_then}
use Rattle.pesp_counts_supports.proofs.supports.Supports.sift_along.Goals as goal
use Rattle.pesp_counts_supports.proofs.supports.Supports.sift_along.Goals.{Start, After-end-end}

-- the end is one at a place
listed : (c : Start) → IsEndAt c.args.self.now.period c.args.links.now.ends c.args.links.now.lists c.requires.listed.0 c.args.number
listed c = c.requires.fit.linked.each c.requires.listed.0 c.args.number c.requires.listed.1

pub end-end-requires : goal.end-end-requires
end-end-requires c = (listed (goal.at.end-end-requires c).Start).within

-- the place and the end that are sifted are there
far : (c : After-end-end) → (c.end-end.result.looks_at < length c.args.self.now.rows) × (c.end-end.result.mate * c.args.self.now.period + c.args.self.now.period ≤ length c.args.self.now.counts)
far c =
    let s = c.args.self.now in
    let fit = c.requires.fit in
    let e = end_at c.args.links.now.ends c.args.number in
    let there = (c.requires.fit.linked.each c.requires.listed.0 c.args.number c.requires.listed.1).mate_there in
    subst (λ (x : End). (x.looks_at < length s.rows) × (x.mate * s.period + s.period ≤ length s.counts)) (sym c.end-end.ensures) (fit.rows e.looks_at e.mate there, fit.counts e.looks_at e.mate there)

pub touched_ranges-ranges-requires-clause-first : goal.touched_ranges-ranges-requires-clause-first
touched_ranges-ranges-requires-clause-first c =
    let at = c.requires.fit.linked.each c.requires.listed.0 c.args.number c.requires.listed.1 in
    omega (arith, at.first, ap (λ (e : End). e.first) c.end-end.ensures, c.get.ensures.value, ap (λ (s : Supports). s.period) c.self.view_is)

pub touched_ranges-ranges-requires-clause-width : goal.touched_ranges-ranges-requires-clause-width
touched_ranges-ranges-requires-clause-width c =
    let at = c.requires.fit.linked.each c.requires.listed.0 c.args.number c.requires.listed.1 in
    omega (arith, at.width, ap (λ (e : End). e.width) c.end-end.ensures, c.get.ensures.value, ap (λ (s : Supports). s.period) c.self.view_is)

pub sift_range-requires-clause-place : goal.sift_range-requires-clause-place
sift_range-requires-clause-place c = (far (goal.at.sift_range-requires-clause-place c).After-end-end).0

pub sift_range-requires-clause-end : goal.sift_range-requires-clause-end
sift_range-requires-clause-end c = (far (goal.at.sift_range-requires-clause-end c).After-end-end).1

pub sift_range-requires-2-clause-place : goal.sift_range-requires-2-clause-place
sift_range-requires-2-clause-place c = rw c.sift_range.ensures.takes.keeps.many (far (goal.at.sift_range-requires-2-clause-place c).After-end-end).0

pub sift_range-requires-2-clause-end : goal.sift_range-requires-2-clause-end
sift_range-requires-2-clause-end c = let keeps = c.sift_range.ensures.takes.keeps in rw (keeps.period, keeps.counts) (far (goal.at.sift_range-requires-2-clause-end c).After-end-end).1

pub returns-clause-takes : goal.returns-clause-takes
returns-clause-takes c = takes_then c.args.self.now c.sift_range.new.self c.sift_range-2.new.self c.sift_range.ensures.takes c.sift_range-2.ensures.takes

pub returns-clause-rows : goal.returns-clause-rows
returns-clause-rows c p r below =
    let s = c.args.self.now in
    let mid = c.sift_range.new.self in
    let keeps = c.sift_range.ensures.takes.keeps in
    let w = c.touched_ranges-ranges.result in
    let e = c.end-end.result in
    let f : ℕ → Bool = λ q. count_at s.period s.counts e.mate q == 0 in
    let then : Clears e.looks_at f 0 w.wrapped mid.rows c.sift_range-2.new.self.rows = rw (keeps.period, keeps.counts) at c.sift_range-2.ensures.rows in
    let both = clears_both e.looks_at f w s.rows mid.rows c.sift_range-2.new.self.rows c.sift_range.ensures.rows then p r in
    let period : c.get.result ≡ s.period = c.get.ensures.value ∙ ap (λ (x : Supports). x.period) c.self.view_is in
    let touched : in_ranges w r ≡ is_touched s.period c.args.left e r = c.touched_ranges-ranges.ensures.touched r (omega (arith, below, period)) ∙ ap (λ n. is_touched n c.args.left e r) period in
    subst (λ (x : End). has_at c.sift_range-2.new.self.rows p r ≡ (has_at s.rows p r && not (p == x.looks_at && is_touched s.period c.args.left x r && (count_at s.period s.counts x.mate r == 0)))) c.end-end.ensures
    (both ∙ ap (λ b. has_at s.rows p r && not (p == e.looks_at && b && f r)) touched)
