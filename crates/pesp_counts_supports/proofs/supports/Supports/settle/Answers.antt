-- What the pairs before did and what the next one does, one after the other.
use Rattle.std.proofs.Common.{◌≡◌, ℕ, ◌+◌, ◌*◌, ◌<◌, ◌≤◌, length, drop, ap, subst, arith, rules}
use Rattle.std.proofs.Math.Nat.{mul-le-mul_left}
use Rattle.pesp_counts_supports.specs.Counts.{ArePending, KeepsClosed, has_at}
use Rattle.pesp_counts_supports.specs.Moves.{owed}
use Rattle.pesp_counts_supports.specs.Spent.{ends_at}
use Rattle.pesp_counts_supports.specs.Supports.{Supports}
use Rattle.pesp_counts_supports.proofs.Parted.{owed_most}
use Rattle.pesp_counts_supports.proofs.Spent.{ends_after}
use Rattle.pesp_counts_supports.proofs.Taken.{fit_then, keeps_none, keeps_then, shape_none, shape_then, taken_none, taken_then}
use Rattle.pesp_counts_supports.proofs.supports.Supports.settle.Goals as goal

-- what is owed now and what more was owed at the end of the trail
step : (period start now after owed_now owed_after all_now all_after more : ℕ) → all_after ≡ all_now + more → now + period * owed_now ≤ start + period * all_now → after + period * owed_after ≤ now + period * (owed_now + more) → after + period * owed_after ≤ start + period * all_after
step period start now after owed_now owed_after all_now all_after more is so_far paid = rw is (omega (arith, so_far, paid))

pub settle_one-requires-clause-fit : goal.settle_one-requires-clause-fit
settle_one-requires-clause-fit c = fit_then c.args.links.now c.args.self.now c.loop-next.self c.loop-next.invariant.shape c.requires.fit

pub loop-next-init : goal.loop-next-init
loop-next-init c =
    let s = c.args.self.now in
    let links = c.args.links.now in
    record {
      pending = c.requires.pending;
      keeps = keeps_none s.period links.ends links.lists (has_at s.rows);
      taken = taken_none s;
      shape = shape_none s;
      onward = omega arith;
      counts_on = omega arith;
      probes = omega (arith, mul-le-mul_left s.period (owed_most links (has_at s.counted) (drop c.args.next s.trail)));
    }

pub loop-next-preserved : goal.loop-next-preserved
loop-next-preserved c =
    let start = c.args.self.now in
    let links = c.args.links.now in
    let now = c.loop-next.self in
    let after = c.settle_one.new.self in
    let inv = c.loop-next.invariant in
    let within : c.loop-next.next < length now.trail = omega (arith, c.loop-next-test.true, c.len.ensures, ap (λ (s : Supports). length s.trail) c.self.view_is) in
    let paid : after.probes + start.period * owed links (has_at after.counted) (drop (c.loop-next.next + 1) after.trail) ≤ now.probes + start.period * (owed links (has_at now.counted) (drop c.loop-next.next now.trail) + ends_at links (drop (length now.trail) after.trail)) =
    subst (λ n. after.probes + n * owed links (has_at after.counted) (drop (c.loop-next.next + 1) after.trail) ≤ now.probes + n * (owed links (has_at now.counted) (drop c.loop-next.next now.trail) + ends_at links (drop (length now.trail) after.trail))) inv.shape.period c.settle_one.ensures.probes
    in
    record {
      pending = subst (λ n. ArePending n links.ends links.lists after.counts (has_at after.counted) (has_at after.rows) after.trail (c.loop-next.next + 1)) inv.shape.period c.settle_one.ensures.pending;
      keeps = keeps_then start.period links.ends links.lists (has_at start.rows) (has_at now.rows) (has_at after.rows) inv.keeps
          (subst (λ n. KeepsClosed n links.ends links.lists (has_at now.rows) (has_at after.rows)) inv.shape.period c.settle_one.ensures.keeps);
      taken = taken_then start now after inv.taken c.settle_one.ensures.taken;
      shape = shape_then start now after inv.shape c.settle_one.ensures.shape;
      onward = omega (arith, inv.onward);
      counts_on = omega (arith, inv.counts_on, c.settle_one.ensures.counts_on);
      probes = step start.period start.probes now.probes after.probes _ _ _ _ _ (ends_after links now after c.args.next c.settle_one.ensures.taken (omega (arith, inv.onward, within))) inv.probes paid;
    }

-- by search, and named so that a wrong body is refused here at once
pub returns-clause-pending : goal.returns-clause-pending
returns-clause-pending c = search rules
