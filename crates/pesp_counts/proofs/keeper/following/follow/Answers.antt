-- The links first, then the rows.
use Rattle.std.proofs.Common.{◌∙◌, sym}
use Rattle.pesp_counts.proofs.Carried.{same_period}
use Rattle.pesp_counts.proofs.Loosened.{followed_put}
use Rattle.pesp_counts.proofs.Relinked.{followed_ready}
use Rattle.pesp_counts.proofs.keeper.following.follow.Goals as goal

pub relink-requires-clause-before : goal.relink-requires-clause-before
relink-requires-clause-before c =
    let (I, w, is) = c.requires.before in
    (I, c.args.instance.now, sym (same_period I c.args.instance.now c.args.edit.now w.settled.network w.made) ∙ sym c.period.ensures.value, w.made, w.settled.fits.stand)

pub propagate-requires-clause-ready : goal.propagate-requires-clause-ready
propagate-requires-clause-ready c =
    let (I, w, is) = c.requires.before in
    let J = c.args.instance.now in
    let edit = c.args.edit.now in
    let period = sym (same_period I J edit w.settled.network w.made) ∙ sym c.period.ensures.value in
    (followed_ready I J edit c.args.counted.now.links c.relink.new.links c.args.counted.now.supports c.args.change.now w is (c.relink.ensures I J period w.made w.settled.fits.stand)).0

pub returns-clause-followed : goal.returns-clause-followed
returns-clause-followed c I is w =
    let J = c.args.instance.now in
    let edit = c.args.edit.now in
    let period = sym (same_period I J edit w.settled.network w.made) ∙ sym c.period.ensures.value in
    followed_put I J edit c.args.counted.now.links c.relink.new.links c.args.counted.now.supports c.propagate.new.supports c.args.change.now c.propagate.new.back.items w c.period.ensures.network is (c.relink.ensures I J period w.made w.settled.fits.stand) c.propagate.ensures.back c.propagate.ensures.worked

pub returns-clause-shape : goal.returns-clause-shape
returns-clause-shape c = c.propagate.ensures.back.shape
