-- Over full rows each count is the width of its end.
use Rattle.std.proofs.Common.{◌<◌, length, inl, inr, subst, ap, ◌∙◌, arith}
use Rattle.std.specs.List.{Contains}
use Rattle.std.proofs.lemmas.Bool.{cases_eq}
use Rattle.std.proofs.lemmas.Bool.Decides.{nat_tests}
use Rattle.pesp_counts_arcs.specs.Ends.{end_at, ends_of}
use Rattle.pesp_counts_supports.specs.Counts.{has_at}
use Rattle.pesp_counts_supports.specs.Supports.{Supports}
use Rattle.pesp_counts_supports.proofs.Partners.{exact_full}
use Rattle.pesp_counts_supports.proofs.Taken.{fit_then, shape_then}
use Rattle.pesp_counts_supports.proofs.supports.Supports.refill.Goals as goal

pub widen-requires : goal.widen-requires
widen-requires c = record { fit = fit_then _ _ _ (shape_then _ _ _ c.loop-place.invariant.shape c.open.ensures.shape) c.requires.fit }

pub loop-place-preserved : goal.loop-place-preserved
loop-place-preserved c =
    let i = c.loop-place.invariant in
    let opened = c.open.ensures in
    let shape = shape_then _ _ _ i.shape opened.shape in
    let wide = rw (shape.period, opened.counts) at c.widen.ensures.wide in
    rw c.widen.ensures.same
    (record {
      rows = λ p r. grind (arith, nat_tests, opened.rows p r, i.rows p r, i.shape.period);
      counted = λ p r. grind (arith, nat_tests, opened.counted p r, i.counted p r, i.shape.period);
      wide = λ p k below l.
          elim (cases_eq p c.loop-place.place) [
            | inl same ↦ wide k (inl (subst (λ q. Contains (ends_of c.args.links.now.lists q) k) same l))
            | inr apart ↦ wide k (inr (i.wide p k (omega (arith, below, apart)) l))
          ];
      trail = opened.trail;
      shape = record { period = shape.period; counts = c.widen.ensures.long ∙ shape.counts; counted = shape.counted; rows = shape.rows; room = shape.room };
    })

pub returns-clause-exact : goal.returns-clause-exact
returns-clause-exact c p k l =
    let i = c.loop-place.invariant in
    let fit = c.requires.fit in
    let ends = c.args.links.now.ends in
    let at = fit.linked.each p k l in
    let many = ap (λ (s : Supports). length s.rows) c.self.view_is in
    let below : p < c.loop-place.place = omega (arith, fit.rows p k l, many, c.len-place-end.ensures, c.loop-place-test.false) in
    let there : (end_at ends k).looks_at < c.loop-place.place = omega (arith, fit.rows _ _ at.mate_there, many, c.len-place-end.ensures, c.loop-place-test.false) in
    rw i.shape.period
    (exact_full c.args.self.now.period ends c.loop-place.self.counts (has_at c.loop-place.self.counted) k (omega (arith, at.first)) at.width
    (λ s sl. grind (arith, nat_tests, i.counted (end_at ends k).looks_at s, there, sl))
    (i.wide p k below l))
