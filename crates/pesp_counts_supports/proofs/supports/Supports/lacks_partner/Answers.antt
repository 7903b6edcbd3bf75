-- An end more has a count above 0.
use Rattle.std.proofs.Common.{◌≡◌, ◌+◌, ◌-◌, ◌*◌, ◌≤◌, ℕ, length, sym, ap, subst, ◌∙◌, ◌==◌, false, refl, arith}
use Rattle.std.specs.List.{Contains, list_any}
use Rattle.std.proofs.lemmas.Bool.{ne_eqb}
use Rattle.pesp_domains.proofs.Families.{here, there}
use Rattle.pesp_counts_supports.specs.Counts.{count_at}
use Rattle.pesp_counts_supports.specs.Supports.{Supports}
use Rattle.pesp_counts_supports.specs.Spent.{most_probes}
use Rattle.pesp_counts_supports.proofs.Spent.{at_most}
use Rattle.pesp_counts_supports.proofs.supports.Supports.lacks_partner.Goals as goal

pub count-requires-clause-end : goal.count-requires-clause-end
count-requires-clause-end c =
    let k = c.in-Some.end in
    let listed = c.loop-end.invariant.listed k (subst (λ xs. Contains xs k) (sym c.in-Some.ensures.steps) (here k c.next.new.self)) in
    let same = c.self.view_is ∙ c.loop-end.invariant.same in
    subst (λ (n : ℕ). k * n + n ≤ length c.self.inside.counts.values) (sym (ap (λ (s : Supports). s.period) same))
    (subst (λ xs. k * c.args.self.now.period + c.args.self.now.period ≤ length xs) (sym (ap (λ (s : Supports). s.counts) same))
    (c.requires.fit.counts c.args.pair.place k listed))

pub loop-end-preserved : goal.loop-end-preserved
loop-end-preserved c =
    let s = c.args.self.now in
    let r = c.args.pair.residue in
    let m = c.in-Some.end in
    let rest = c.next.new.self in
    let inv = c.loop-end.invariant in
    let inside = c.self.inside in
    let same = c.self.view_is ∙ inv.same in
    let count : c.count.result ≡ count_at s.period s.counts m r =
    c.count.ensures ∙ ap (λ (t : Supports). count_at t.period t.counts m r) same
    in
    let some : (count_at s.period s.counts m r == 0) ≡ false = ne_eqb _ 0 (λ none. c.if-count-eq0.false (count ∙ none)) in
    let few : c.probe_range.new.probes ≤ inside.probes + 1 = let one = at_most inside.probes (r + 1 - r) most_probes c.probe_range.new.probes c.probe_range.ensures.counted in omega (arith, one) in
    let probes : inside.probes ≡ c.loop-end.self.probes = ap (λ (t : Supports). t.probes) c.self.view_is in
    record {
      can = tt;
      finite = tt;
      listed = λ k i. inv.listed k (subst (λ xs. Contains xs k) (sym c.in-Some.ensures.steps) (there k m rest i));
      lacks = inv.lacks ∙ ap (list_any (λ k. count_at s.period s.counts k r == 0)) c.in-Some.ensures.steps ∙ rw some refl;
      same = ap (λ (t : Supports). record { period = t.period; counts = t.counts; counted = t.counted; rows = t.rows; trail = t.trail; room = t.room; sums = t.sums; probes = c.probe_range.new.probes }) same;
      counts_on = omega (arith, probes, inv.counts_on, c.probe_range.ensures.counted);
      probes = omega (arith, few, probes, inv.probes, ap length c.in-Some.ensures.steps);
    }
