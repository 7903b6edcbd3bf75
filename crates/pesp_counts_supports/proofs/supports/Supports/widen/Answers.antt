-- One end more.
use Rattle.std.proofs.Common.{◌≡◌, ℕ, ◌+◌, ◌*◌, ◌<◌, ◌≤◌, length, slice_index_or, inl, inr, subst, sym, ap, ◌∙◌, arith}
use Rattle.std.specs.List.{Contains}
use Rattle.pesp_domains.proofs.Families.{here, here_or_there, not_in_none, there}
use Rattle.pesp_counts_arcs.specs.declared.end.End.{End}
use Rattle.pesp_counts_supports.specs.declared.supports.Supports.TheInside.{Inside}
use Rattle.pesp_counts_arcs.specs.Ends.{IsEndAt}
use Rattle.pesp_counts_supports.specs.Supports.{Fit}
use Rattle.pesp_counts_supports.proofs.Partners.{wide_still}
use Rattle.pesp_counts_supports.proofs.supports.Supports.widen.Goals as goal
use Rattle.pesp_counts_supports.proofs.supports.Supports.widen.Goals.{In-Some}

-- the end is one that is listed, and there are counts for it
facts : (c : In-Some)
    → IsEndAt c.self.inside.period c.args.links.now.ends c.args.links.now.lists c.args.place c.in-Some.number
    × (c.in-Some.number * c.get-period.result + c.get-period.result ≤ length c.loop-number.self-inside.counts.values)
facts c =
    let k = c.in-Some.number in
    let i = c.loop-number.invariant in
    let fit = subst (Fit c.args.links.now) (sym c.self.view_is) c.requires.fit in
    let listed = i.listed k (subst (λ xs. Contains xs k) (sym c.in-Some.ensures.steps) (here k c.next.new.self)) in
    (fit.linked.each c.args.place k listed, rw c.get-period.ensures.value (omega (arith, fit.counts c.args.place k listed, i.long)))

pub base-base-requires : goal.base-base-requires
base-base-requires c = (facts (goal.at.base-base-requires c).In-Some).1

pub end-requires : goal.end-requires
end-requires c = (facts (goal.at.end-requires c).In-Some).0.within

pub fill_range-requires-clause-within : goal.fill_range-requires-clause-within
fill_range-requires-clause-within c =
    let (at, within) = facts (goal.at.fill_range-requires-clause-within c).In-Some in
    omega (arith, within, c.base-base.ensures.base)

pub fill_range-requires-clause-low : goal.fill_range-requires-clause-low
fill_range-requires-clause-low c =
    let (at, within) = facts (goal.at.fill_range-requires-clause-low c).In-Some in
    omega (arith, ap (λ (e : End). e.width) c.end.ensures, at.width, c.loop-number.invariant.most)

pub loop-number-preserved : goal.loop-number-preserved
loop-number-preserved c =
    let i = c.loop-number.invariant in
    let m = c.in-Some.number in
    let rest = c.next.new.self in
    let base = c.base-base.result in
    let filled = c.fill_range.ensures in
    let made : (r : ℕ) → r < c.get-period.result → slice_index_or c.fill_range.new.self.values (base + r) 0 ≡ c.end.result.width = λ r rl. filled.here (base + r) (omega arith) (omega (arith, rl)) in
    let still = rw c.get-period.ensures.value at (wide_still c.get-period.result c.args.links.now.ends c.loop-number.self-inside.counts.values c.fill_range.new.self.values m base c.end.result.width c.base-base.ensures.base (ap (λ (e : End). e.width) c.end.ensures) made filled.elsewhere) in
    record {
      can = tt;
      finite = tt;
      listed = λ k l. i.listed k (subst (λ xs. Contains xs k) (sym c.in-Some.ensures.steps) (there k m rest l));
      wide = λ k l.
          elim (i.wide k l) [
            | inl ahead ↦
                elim (here_or_there k m rest (subst (λ xs. Contains xs k) c.in-Some.ensures.steps ahead)) [
                  | inl same ↦ inr (still k (inl same))
                  | inr later ↦ inl later
                ]
            | inr wide ↦ inr (still k (inr wide))
          ];
      most = omega (arith, i.most, filled.most);
      long = filled.long ∙ i.long;
      same = ap (λ (s : Inside). record s { counts = c.fill_range.new.self }) i.same;
    }

pub returns-clause-wide : goal.returns-clause-wide
returns-clause-wide c =
    rw (sym c.self.view_is)
    (λ k l.
    elim (c.loop-number.invariant.wide k l) [
      | inl ahead ↦ absurd (not_in_none k (subst (λ xs. Contains xs k) c.in-None.ensures.steps.0 ahead))
      | inr wide ↦ wide
    ])
