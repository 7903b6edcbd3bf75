-- What is met at the place that the end looks at is brought, of what is admitted there.
use Rattle.std.proofs.Common.{rules, ◌≡◌, ◌<◌, ◌≤◌, ℕ, Some, IsTrue, length, [], sym, ap, subst, ◌∙◌, arith, Bool}
use Rattle.std.proofs.lemmas.Bool.{lt-ltb}
use Rattle.std.proofs.lemmas.List.{get_or_read}
use Rattle.pesp_domains.specs.Domains.{holds}
use Rattle.pesp_counts_arcs.specs.declared.end.End.{End}
use Rattle.pesp_counts_arcs.specs.Ends.{end_at}
use Rattle.pesp_counts_supports.specs.Blocks.{is_met, of_block, of_met}
use Rattle.pesp_counts_supports.specs.Counts.{has_at}
use Rattle.pesp_counts_supports.specs.Moves.{is_touched, IsMoved, partners}
use Rattle.pesp_counts_supports.specs.Restored.{AreRanges, in_ranges, of_ranges}
use Rattle.pesp_counts_supports.specs.Supports.{Supports}
use Rattle.pesp_counts_supports.proofs.Along.{AreMet, AreTold, are_met, block_there, met_block, told}
use Rattle.pesp_counts_supports.proofs.Brought.{brought_as, brought_none}
use Rattle.pesp_counts_supports.proofs.Known.{end_known}
use Rattle.pesp_counts_supports.proofs.supports.Supports.bring_along.Goals as goal
use Rattle.pesp_counts_supports.proofs.supports.Supports.bring_along.Goals.{After-end-far, After-touched_ranges-ranges, After-unwrap_or-ranges}

pub end-near-requires : goal.end-near-requires
end-near-requires c = (c.requires.fit.linked.each c.requires.listed.0 c.args.number c.requires.listed.1).within

pub end-far-requires : goal.end-far-requires
end-far-requires c = (end_known _ _ c.requires.fit _ _ c.requires.listed.1 _ c.end-near.ensures).1.within

pub touched_ranges-ranges-requires-clause-first : goal.touched_ranges-ranges-requires-clause-first
touched_ranges-ranges-requires-clause-first c =
    let known = end_known _ _ c.requires.fit _ _ c.requires.listed.1 _ c.end-near.ensures in
    rw (c.get.ensures.value ∙ ap (λ (s : Supports). s.period) c.self.view_is, c.end-near.ensures) known.0.first

pub touched_ranges-ranges-requires-clause-width : goal.touched_ranges-ranges-requires-clause-width
touched_ranges-ranges-requires-clause-width c =
    let known = end_known _ _ c.requires.fit _ _ c.requires.listed.1 _ c.end-near.ensures in
    rw (c.get.ensures.value ∙ ap (λ (s : Supports). s.period) c.self.view_is, c.end-near.ensures) known.0.width

pub index-requires : goal.index-requires
index-requires c =
    let known = end_known _ _ c.requires.fit _ _ c.requires.listed.1 _ c.end-near.ensures in
    let within : c.end-near.result.looks_at < length c.args.self.now.rows = known.2 in
    search rules

-- the touched ranges are ranges of the period, and hold what is touched
facts : (c : After-touched_ranges-ranges) → let T = c.args.self.now.period in let w = c.touched_ranges-ranges.result in AreRanges T w × ((r : ℕ) → r < T → in_ranges w r ≡ is_touched T c.args.came c.end-near.result r)
facts c =
    let period_is = c.get.ensures.value ∙ ap (λ (s : Supports). s.period) c.self.view_is in
    let w = c.touched_ranges-ranges.result in
    let e = c.touched_ranges-ranges.ensures in (
      record { order = e.order; below = omega (arith, e.below, period_is); wrapped = e.wrapped },
      subst (λ n. (r : ℕ) → r < n → in_ranges w r ≡ is_touched n c.args.came c.end-near.result r) period_is e.touched,
    )

-- what is met at the far end has a partner
seen : (c : After-end-far) → (D : ℕ → Bool) → IsMoved c.args.self.now.period c.args.came c.args.self.now.sums D → AreMet c.args.self.now.period c.args.links.now.ends c.args.number c.args.came c.args.self.now.sums D c.end-near.result c.end-far.result
seen c D is =
    let links = c.args.links.now in
    are_met c.args.self.now.period links.ends links.lists c.requires.fit.linked c.requires.listed.0 c.args.number c.requires.listed.1 c.args.came c.args.self.now.sums D is c.end-near.result c.end-far.result c.end-near.ensures c.end-far.ensures

-- the ranges gone over are those that are told, or the touched ones
taken : (c : After-unwrap_or-ranges) → AreRanges c.args.self.now.period c.touched_ranges-ranges.result → ((r : ℕ) → r < c.args.self.now.period → IsTrue (is_met c.args.self.now.sums c.end-far.result r) → IsTrue (in_ranges c.touched_ranges-ranges.result r))
    → AreTold c.args.self.now.period c.args.instance.now c.args.links.now c.end-near.result.looks_at c.args.self.now.sums (Some c.end-far.result) c.unwrap_or-ranges.result
taken c are all =
    told c.args.self.now.period c.args.instance.now c.args.links.now c.end-near.result.looks_at c.args.self.now.sums (Some c.end-far.result) c.requires.period c.admitted_at.result c.touched_ranges-ranges.result c.unwrap_or-ranges.result are all
    c.admitted_at.ensures.some c.admitted_at.ensures.none c.unwrap_or-ranges.ensures

pub bring_ranges-requires-clause-place : goal.bring_ranges-requires-clause-place
bring_ranges-requires-clause-place c = (end_known _ _ c.requires.fit _ _ c.requires.listed.1 _ c.end-near.ensures).2

pub bring_ranges-requires-clause-met : goal.bring_ranges-requires-clause-met
bring_ranges-requires-clause-met c end is =
    let met = seen (goal.at.bring_ranges-requires-clause-met c).After-end-far c.requires.some.0 c.requires.some.1 in
    let same : c.end-far.result ≡ end = cc in
    subst (λ (e : End). (e.first < c.args.self.now.period) × (e.width ≤ c.args.self.now.period)) same (met.first, met.width)

pub returns-then-lacks_some-clause-brought : goal.returns-then-lacks_some-clause-brought
returns-then-lacks_some-clause-brought c D is =
    let T = c.args.self.now.period in
    let I = c.args.instance.now in
    let links = c.args.links.now in
    let start = c.args.self.now in
    let near = c.end-near.result in
    let far = c.end-far.result in
    let at = goal.at.returns-then-lacks_some-clause-brought c in
    let met = seen at.After-end-far D is in
    let (are, touched) = facts at.After-touched_ranges-ranges in
    let told = taken at.After-unwrap_or-ranges are (λ r below meets. touched r below ∙ met.touched r below meets) in
    rw (← c.end-near.ensures)
    (brought_as (of_met start.sums (Some far) (of_ranges near.looks_at c.unwrap_or-ranges.result)) (of_block T I links D (end_at links.ends near.mate) near.looks_at) start c.bring_ranges.new.self c.args.back.now c.bring_ranges.new.back
    (λ p r. told.brings p r ∙ met_block T I links c.requires.period c.args.number c.args.came start.sums D near far c.end-near.ensures met p r)
    c.bring_ranges.ensures.brought)

pub returns-then-lacks_some-clause-probes : goal.returns-then-lacks_some-clause-probes
returns-then-lacks_some-clause-probes c =
    let at = goal.at.returns-then-lacks_some-clause-probes c in
    let (D, is, some) = c.requires.some in
    let met = seen at.After-end-far D is in
    let (are, touched) = facts at.After-touched_ranges-ranges in
    let told = taken at.After-unwrap_or-ranges are (λ r below meets. touched r below ∙ met.touched r below meets) in
    let meets = met.partner some.0 some.1 ∙ lt-ltb 0 (partners c.args.self.now.period c.args.links.now.ends c.args.number D some.0) some.2 in
    omega (arith, told.few some.0 some.1 meets, c.bring_ranges.ensures.probes)

pub returns-else-lacks_some-clause-brought : goal.returns-else-lacks_some-clause-brought
returns-else-lacks_some-clause-brought c D is =
    let T = c.args.self.now.period in
    let I = c.args.instance.now in
    let links = c.args.links.now in
    let start = c.args.self.now in
    let near = c.end-near.result in
    let at = goal.at.returns-else-lacks_some-clause-brought c in
    let met = seen at.After-end-far D is in
    let (are, touched) = facts at.After-touched_ranges-ranges in
    let known = end_known _ _ c.requires.fit _ _ c.requires.listed.1 _ c.end-near.ensures in
    let rows = c.self.inside.rows.items in
    let within = subst (λ (s : Supports). near.looks_at < length s.rows) (sym c.self.view_is) known.2 in
    let row_is = get_or_read rows near.looks_at c.index.result.now within c.index.ensures [] in
    let full : (r : ℕ) → IsTrue (in_ranges c.touched_ranges-ranges.result r) → IsTrue (has_at rows near.looks_at r) = λ r h. subst (λ xs. IsTrue (holds xs r)) row_is (c.lacks_some.ensures.full c.if-lacks_some.false r h) in
    let there = block_there T I links c.requires.period c.args.number c.args.came start.sums D near c.end-far.result c.end-near.ensures met start.rows
    (λ r below h. subst (λ (s : Supports). IsTrue (has_at s.rows near.looks_at r)) c.self.view_is (full r (touched r below ∙ h)))
    in
    rw (← c.end-near.ensures)
    (brought_none (of_block T I links D (end_at links.ends near.mate) near.looks_at) start c.args.back.now there)
