-- All of them wait, and one after another comes back.
use Rattle.std.proofs.Common.{◌≡◌, ◌-◌, ◌≤◌, ◌<◌, ◌||◌, ◌∙◌, length, ap, subst, sym, drop, take, All, arith}
use Rattle.std.proofs.lemmas.List.{length-drop, take_all}
use Rattle.pesp_counts_supports.specs.declared.trail.Placed.{Placed}
use Rattle.pesp_counts_supports.specs.Counts.{has_at}
use Rattle.pesp_counts_supports.specs.Supports.{Supports, is_in}
use Rattle.pesp_counts_supports.proofs.Returned.{back_exact, back_level, back_more, back_rows, back_start, back_trail}
use Rattle.pesp_counts_supports.proofs.Taken.{fit_then}
use Rattle.pesp_counts_supports.proofs.supports.Supports.put_back.Goals as goal
use Rattle.pesp_counts_supports.proofs.supports.Supports.put_back.Goals.{After-deref}

pub invariant_of-self : goal.invariant_of-self
invariant_of-self c =
    let v = c.self.invariant in
    record {
      period = v.period;
      rows = v.rows;
      counted = c.put_all.ensures.long c.self.inside.period v.counted;
      even = c.put_all.ensures.many ∙ v.even;
      few = v.few;
      room = v.room;
      all_room = v.all_room;
      sums = v.sums;
      fits = v.fits;
    }

-- those that wait are the end of the trail
waiting : (c : After-deref) → let items = c.deref.result.now in take (length items - c.args.mark) (drop c.args.mark items) ≡ drop c.args.mark c.args.self.now.trail
waiting c =
    let mark = c.args.mark in
    let items = c.deref.result.now in
    take_all (length items - mark) (drop mark items) (omega (arith, length-drop mark items)) ∙ ap (drop mark) (c.deref.ensures.value ∙ ap (λ (s : Supports). s.trail) c.self.view_is)

pub put_all-requires-clause-below : goal.put_all-requires-clause-below
put_all-requires-clause-below c =
    let whole = waiting (goal.at.put_all-requires-clause-below c).After-deref in (
      c.self.inside.period,
      c.self.invariant.counted,
      subst (All (λ (x : Placed). x.residue < c.self.inside.period)) (sym whole) (rw (ap (λ (s : Supports). s.period) c.self.view_is) c.requires.out.below),
    )

pub loop-self-init : goal.loop-self-init
loop-self-init c =
    let r = c.requires in
    let e = c.put_all.ensures in
    let mark = c.args.mark in
    back_start c.args.links.now mark c.args.self.now _ r.mark r.exact r.level r.out
    (λ p r. e.has p r ∙ ap (λ xs. has_at c.self.inside.counted.items p r || is_in xs p r) (waiting (goal.at.loop-self-init c).After-deref) ∙ ap (λ (s : Supports). has_at s.counted p r || is_in (drop mark c.args.self.now.trail) p r) c.self.view_is)
    (e.many ∙ ap (λ (s : Supports). length s.counted) c.self.view_is)
    (ap (λ (s : Supports). record s { counted = c.put_all.new.rows.items }) c.self.view_is)

pub put_last-requires-clause-fit : goal.put_last-requires-clause-fit
put_last-requires-clause-fit c = fit_then c.args.links.now c.args.self.now c.loop-self.self c.loop-self.invariant.shape c.requires.fit

pub loop-self-preserved : goal.loop-self-preserved
loop-self-preserved c =
    let e = c.put_last.ensures in
    let (last, trail, rows) = e.last in
    let long = ap (λ (s : Supports). length s.trail) c.self-in-loop-self.view_is in
    back_more c.args.links.now c.args.mark c.args.self.now c.loop-self.self c.put_last.new.self last c.loop-self.invariant (omega (arith, c.loop-self-test.true, c.len.ensures, long)) trail rows e.returning e.shape

pub returns : goal.returns
returns c =
    let long = ap (λ (s : Supports). length s.trail) c.self-in-loop-self.view_is in
    let over : length c.loop-self.self.trail ≤ c.args.mark = omega (arith, long, c.len.ensures, c.loop-self-test.false) in
    let links = c.args.links.now in
    let start = c.args.self.now in
    let now = c.loop-self.self in
    let so_far = c.loop-self.invariant in
    record {
      rows = back_rows links c.args.mark start now over so_far;
      exact = back_exact links c.args.mark start now over so_far;
      level = back_level links c.args.mark start now over so_far;
      trail = back_trail links c.args.mark start now over so_far;
      shape = so_far.shape;
    }
