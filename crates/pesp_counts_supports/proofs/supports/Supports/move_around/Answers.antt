-- One end after another.
use Rattle.std.proofs.Common.{◌≡◌, ◌≢◌, ◌*◌, false, ℕ, AllPairs, length, refl, subst, sym, ap, ◌∙◌, arith}
use Rattle.std.specs.List.{Contains}
use Rattle.pesp_domains.proofs.Families.{here, there}
use Rattle.pesp_counts_arcs.specs.Ends.{ends_of}
use Rattle.pesp_counts_supports.specs.Counts.{IsExactAt}
use Rattle.pesp_counts_supports.specs.Moves.{CanMove, IsMoved, MovesBy}
use Rattle.pesp_counts_supports.specs.Restoring.{is_spared}
use Rattle.pesp_counts_supports.specs.Supports.{Supports}
use Rattle.pesp_counts_supports.proofs.Raised.{next_once, rest_apart}
use Rattle.pesp_counts_supports.proofs.Blocked.{AreMovingBut, but_can, but_end, but_moved, but_passed, but_start}
use Rattle.pesp_counts_supports.proofs.Moved.{one_end, only_then}
use Rattle.pesp_counts_supports.proofs.Taken.{fit_then}
use Rattle.pesp_counts_supports.proofs.supports.Supports.move_around.Goals as goal

pub loop-number-init : goal.loop-number-init
loop-number-init c =
    let start = c.args.self.now in
    let links = c.args.links.now in
    let all = c.into_iter-number-iterator.ensures.into_iter_gives ∙ c.ends_at-number-items.ensures in
    record {
      can_next = tt;
      is_finite = tt;
      listed = λ m i. subst (λ xs. Contains xs m) all i;
      once = subst (AllPairs (λ j k. j ≢ k)) (sym all) (c.requires.fit.linked.once c.args.place);
      moving = λ from to D w. subst (AreMovingBut start.period links.ends links.lists c.args.spared from to start.counts) (sym all)
          (but_start start.period links.ends links.lists c.args.spared c.requires.fit.linked c.requires.mates c.args.way from c.args.place D to w.goes start.counts w.exact);
      only = record { same = refl; long = refl; counts_on = omega arith };
      probes = let long = ap (λ xs. start.period * length xs) all in omega (arith, long);
    }

pub move_along-requires-clause-fit : goal.move_along-requires-clause-fit
move_along-requires-clause-fit c =
    let same = c.loop-number.invariant.only.same in
    fit_then c.args.links.now c.args.self.now c.loop-number.self
    (record { period = ap (λ (s : Supports). s.period) same; counts = c.loop-number.invariant.only.long; counted = ap (λ (s : Supports). length s.counted) same; rows = ap (λ (s : Supports). length s.rows) same; room = ap (λ (s : Supports). s.room) same })
    c.requires.fit

pub move_along-requires-clause-can : goal.move_along-requires-clause-can
move_along-requires-clause-can c =
    let start = c.args.self.now in
    let links = c.args.links.now in
    let now = c.loop-number.self in
    let i = c.loop-number.invariant in
    let (from, to, D, w) = c.requires.moves in
    let m = c.in-Some.number in
    let rest = c.next.new.self in
    let steps = c.in-Some.ensures.steps in
    let listed = i.listed m (subst (λ xs. Contains xs m) (sym steps) (here m rest)) in
    let free = sym c.is_spared_end.ensures ∙ c.if-not-is_spared_end.true in
    let so_far = subst (AreMovingBut start.period links.ends links.lists c.args.spared from to now.counts) steps (i.moving from to D w) in
    let can = but_can start.period links.ends links.lists c.args.spared c.requires.fit.linked c.requires.mates c.args.way from c.args.place D to w.goes now.counts m rest listed free so_far in
    (D, subst (λ (s : Supports). IsMoved s.period c.args.moved s.sums D) (sym i.only.same) w.moved, subst (λ n. CanMove c.args.way n links.ends m D now.counts) (sym (ap (λ (s : Supports). s.period) i.only.same)) can)

pub loop-number-preserved-then-not-is_spared_end : goal.loop-number-preserved-then-not-is_spared_end
loop-number-preserved-then-not-is_spared_end c =
    let start = c.args.self.now in
    let links = c.args.links.now in
    let now = c.loop-number.self in
    let after = c.move_along.new.self in
    let i = c.loop-number.invariant in
    let m = c.in-Some.number in
    let rest = c.next.new.self in
    let steps = c.in-Some.ensures.steps in
    let listed = i.listed m (subst (λ xs. Contains xs m) (sym steps) (here m rest)) in
    let once = rw steps at i.once in
    let free = sym c.is_spared_end.ensures ∙ c.if-not-is_spared_end.true in
    let period = ap (λ (s : Supports). s.period) i.only.same in
    record {
      can_next = tt;
      is_finite = tt;
      listed = λ j k. i.listed j (subst (λ xs. Contains xs j) (sym steps) (there j m rest k));
      once = rest_apart m rest once;
      moving = λ from to D w.
          let so_far = subst (AreMovingBut start.period links.ends links.lists c.args.spared from to now.counts) steps (i.moving from to D w) in
          let moved = subst (λ n. MovesBy c.args.way n links.ends m D now.counts after.counts) period (c.move_along.ensures.moved D (subst (λ (s : Supports). IsMoved s.period c.args.moved s.sums D) (sym i.only.same) w.moved)) in
          but_moved start.period links.ends links.lists c.args.spared c.requires.fit.linked c.requires.mates c.args.way from c.args.place D to w.goes now.counts m rest listed free so_far after.counts (next_once m rest once) moved;
      only = only_then start now after i.only c.move_along.ensures.only;
      probes = let more = one_end start.period c.loop-number.number-iterator rest m steps in omega (arith, c.move_along.ensures.probes, period, more, i.probes);
    }

pub loop-number-preserved : goal.loop-number-preserved
loop-number-preserved c =
    let start = c.args.self.now in
    let links = c.args.links.now in
    let now = c.loop-number.self in
    let i = c.loop-number.invariant in
    let m = c.in-Some.number in
    let rest = c.next.new.self in
    let steps = c.in-Some.ensures.steps in
    let out = sym c.is_spared_end.ensures ∙ c.if-not-is_spared_end.false in
    record {
      can_next = tt;
      is_finite = tt;
      listed = λ j k. i.listed j (subst (λ xs. Contains xs j) (sym steps) (there j m rest k));
      once = rest_apart m rest (rw steps at i.once);
      moving = λ from to D w. but_passed start.period links.ends links.lists c.args.spared from to now.counts m rest out (subst (AreMovingBut start.period links.ends links.lists c.args.spared from to now.counts) steps (i.moving from to D w));
      only = i.only;
      probes = let more = one_end start.period c.loop-number.number-iterator rest m steps in omega (arith, more, i.probes);
    }

pub returns-clause-exact : goal.returns-clause-exact
returns-clause-exact c from to D w =
    let start = c.args.self.now in
    let links = c.args.links.now in
    let now = c.loop-number.self in
    let i = c.loop-number.invariant in
    let done = subst (AreMovingBut start.period links.ends links.lists c.args.spared from to now.counts) c.in-None.ensures.steps.0 (i.moving from to D w) in
    subst (λ n. (q k : ℕ) → Contains (ends_of links.lists q) k → is_spared c.args.spared k ≡ false → IsExactAt n links.ends now.counts to k) (sym (ap (λ (s : Supports). s.period) i.only.same))
    (but_end start.period links.ends links.lists c.args.spared from to now.counts done)
