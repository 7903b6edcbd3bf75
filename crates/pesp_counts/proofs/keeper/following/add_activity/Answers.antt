-- The ends of a new activity are counted, and take out what has no partner there.
use Rattle.std.proofs.Common.{◌∙◌, sym, []}
use Rattle.pesp_base.proofs.Tests.{always_err}
use Rattle.pesp_counts.proofs.Loosened.{added_followed, added_ready}
use Rattle.pesp_counts.proofs.Housed.{activity_period, settled_seen}
use Rattle.pesp_counts.proofs.keeper.following.add_activity.Goals as goal

pub returns-in_err-house_activity-clause-err : goal.returns-in_err-house_activity-clause-err
returns-in_err-house_activity-clause-err c =
    always_err c.from_residual.result (λ I w.
    let b = c.in_err-house_activity.ensures.back I c.args.instance.now w.settled.network w.made w.settled.fits in
    settled_seen I [] c.args.counted.now.links c.house_activity.new.links c.args.counted.now.supports c.house_activity.new.supports w.settled b.0 b.1 c.house_activity.ensures.grown)

pub house_activity-requires : goal.house_activity-requires
house_activity-requires c =
    let (I, w) = c.requires.before in
    record {
      period = w.settled.fits.period ∙ sym (activity_period I c.args.instance.now c.args.activity.now w.made) ∙ sym c.period.ensures.value;
      stands = (I, c.args.instance.now, w.made, w.settled.fits);
    }

pub propagate-requires-clause-ready : goal.propagate-requires-clause-ready
propagate-requires-clause-ready c =
    let (I, w) = c.requires.before in
    let J = c.args.instance.now in
    let ok = c.in_ok-house_activity.ensures in
    rw c.none-change.ensures
    (added_ready I J c.args.activity.now c.args.counted.now.links c.house_activity.new.links c.args.counted.now.supports c.house_activity.new.supports c.activity-change.result ok.changed.0 w (ok.ok I J w.made w.settled.fits) ok.changed.1 ok.changed.2 c.house_activity.ensures.grown c.activity-change.ensures)

pub returns-clause-ok : goal.returns-clause-ok
returns-clause-ok c =
    (λ I w.
    let J = c.args.instance.now in
    let ok = c.in_ok-house_activity.ensures in
    added_followed I J c.args.activity.now c.args.counted.now.links c.house_activity.new.links c.args.counted.now.supports c.house_activity.new.supports c.activity-change.result ok.changed.0 w (ok.ok I J w.made w.settled.fits) ok.changed.1 ok.changed.2 c.house_activity.ensures.grown c.activity-change.ensures
    c.propagate.new.supports c.propagate.new.back.items c.period.ensures.network (rw c.none-change.ensures at c.propagate.ensures.back) c.propagate.ensures.worked)
