-- The next end takes out what lacks a count at its mate.
use Rattle.std.proofs.Common.{◌<◌, ℕ, sym, subst}
use Rattle.std.specs.List.{Contains}
use Rattle.pesp_domains.specs.Sweeps.{Of}
use Rattle.pesp_domains.proofs.Families.{here, there}
use Rattle.pesp_counts_arcs.specs.Ends.{AreLinked}
use Rattle.pesp_counts_supports.specs.Counts.{KeepsClosed, has_at}
use Rattle.pesp_counts_supports.specs.Resting.{AreLiveBut}
use Rattle.pesp_counts_supports.specs.Supports.{AreExact}
use Rattle.pesp_counts_supports.proofs.Sifted.{closed_more, live_more}
use Rattle.pesp_counts_supports.proofs.Taken.{fit_then, keeps_then, kept_shape, taken_fewer, takes_then}
use Rattle.pesp_counts_supports.proofs.supports.Supports.sift_around.Goals as goal

pub sift_along-requires-clause-fit : goal.sift_along-requires-clause-fit
sift_along-requires-clause-fit c = fit_then c.args.links.now c.args.self.now c.loop-number.self (kept_shape c.args.self.now c.loop-number.self c.loop-number.invariant.takes.keeps) c.requires.fit

pub loop-number-preserved : goal.loop-number-preserved
loop-number-preserved c =
    let start = c.args.self.now in
    let links = c.args.links.now in
    let now = c.loop-number.self in
    let after = c.sift_along.new.self in
    let inv = c.loop-number.invariant in
    let does = c.sift_along.ensures in
    let m = c.in-Some.number in
    let rest = c.next.new.self in
    let listed = inv.listed m (subst (λ xs. Contains xs m) (sym c.in-Some.ensures.steps) (here m rest)) in
    let linked : AreLinked now.period links.ends links.lists = rw inv.takes.keeps.period c.requires.fit.linked in
    let exact : AreExact links now (has_at start.counted) = rw (inv.takes.keeps.period, inv.takes.keeps.counts) c.requires.exact in
    let fewer = taken_fewer start now inv.takes.taken in
    let below : (p r : ℕ) → Of (has_at now.rows) p r → r < now.period = λ p r h. rw inv.takes.keeps.period (c.requires.below p r (fewer p r h)) in
    let closed = closed_more links now after c.args.left c.args.place m linked listed does.takes.keeps does.rows (has_at start.counted) exact below (λ p r h. c.requires.within p r (fewer p r h)) (taken_fewer now after does.takes.taken) in
    record {
      can_next = tt;
      is_finite = tt;
      listed = λ j k. inv.listed j (subst (λ xs. Contains xs j) (sym c.in-Some.ensures.steps) (there j m rest k));
      live = live_more links now after c.args.left c.args.place m linked listed does.takes.keeps does.rows rest (subst (AreLiveBut links now c.args.left) c.in-Some.ensures.steps inv.live);
      closed = keeps_then start.period links.ends links.lists (has_at start.rows) (has_at now.rows) (has_at after.rows) inv.closed
          (subst (λ n. KeepsClosed n links.ends links.lists (has_at now.rows) (has_at after.rows)) inv.takes.keeps.period closed);
      takes = takes_then start now after inv.takes does.takes;
    }
