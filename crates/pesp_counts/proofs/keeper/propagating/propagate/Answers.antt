-- What came back and is not in the window, or has no partner, waits to be counted out.
use Rattle.std.proofs.Common.{◌≤◌, ◌+◌, ◌*◌, ◌∙◌, sym, subst, length, arith}
use Rattle.pesp_counts_supports.specs.Counts.{KeepsClosed, has_at}
use Rattle.pesp_counts_supports.specs.Spent.{ends_at}
use Rattle.pesp_counts_supports.specs.Supports.{HaveSameShape}
use Rattle.pesp_counts_supports.proofs.Marks.{keeps_like}
use Rattle.pesp_counts_supports.proofs.Sparing.{stand_together}
use Rattle.pesp_counts_supports.proofs.Taken.{fit_then, keeps_then, kept_shape, shape_then, taken_then}
use Rattle.pesp_counts.specs.Changes.{AreWaitingBut, left}
use Rattle.pesp_counts.proofs.Gone.{all_probes, left_placed, worked_is}
use Rattle.pesp_counts.proofs.Keeping.{for_same}
use Rattle.pesp_counts.proofs.Propagated.{waiting_restored, waiting_taken}
use Rattle.pesp_counts.proofs.keeper.propagating.propagate.Goals as goal
use Rattle.pesp_counts.proofs.keeper.propagating.propagate.Goals.{After-limit}

pub restore-requires-clause-mates : goal.restore-requires-clause-mates
restore-requires-clause-mates c = stand_together c.args.instance.now c.args.links.now c.args.change.now.recounted c.requires.ready.fits.stand

pub restore-requires-clause-starts : goal.restore-requires-clause-starts
restore-requires-clause-starts c = rw c.places-starts.ensures c.requires.ready.starts

pub limit-requires-clause-period : goal.limit-requires-clause-period
limit-requires-clause-period c = c.restore.ensures.restored.shape.period ∙ c.requires.ready.fits.period

pub limit-requires-clause-place : goal.limit-requires-clause-place
limit-requires-clause-place c w has = rw c.restore.ensures.restored.shape.rows (c.requires.ready.fits.housed w.event w.place (c.requires.ready.limited w has))

-- what came and is not in the window waits, in counts of the same shape
so_far : (c : After-limit) → HaveSameShape c.args.supports.now c.limit.new.supports × AreWaitingBut c.args.links.now c.limit.new.supports c.args.change.now.recounted c.restore.new.back.items
so_far c =
    let links = c.args.links.now in
    let spared = c.args.change.now.recounted in
    let back = c.restore.new.back.items in
    let s = c.args.supports.now in
    let m = c.restore.new.self in
    let l = c.limit.new.supports in
    let came = waiting_restored c.args.instance.now links _ spared s m back c.restore.ensures.restored c.requires.ready.fits.period c.requires.ready.rest in
    (shape_then s m l c.restore.ensures.restored.shape (kept_shape m l c.limit.ensures.keeps), waiting_taken links spared back m l came c.limit.ensures.taken c.limit.ensures.keeps)

pub recount-requires-clause-fits : goal.recount-requires-clause-fits
recount-requires-clause-fits c = (c.args.instance.now, for_same c.args.instance.now c.args.links.now c.args.supports.now c.limit.new.supports (so_far c.before.before).0 c.requires.ready.fits)

pub settle_back-requires : goal.settle_back-requires
settle_back-requires c =
    let links = c.args.links.now in
    let s = c.args.supports.now in
    let r = c.recount.new.supports in
    let (shape, waiting) = so_far c.before.before.before.before.before in
    let whole = shape_then s c.limit.new.supports r shape c.recount.ensures.shape in
    record {
      fit = fit_then links s r whole c.requires.ready.fits.fit;
      pending = rw c.deref.ensures.value ((c.recount.ensures.counted c.restore.new.back.items waiting).0);
    }

pub returns-clause-back : goal.returns-clause-back
returns-clause-back c =
    let J = c.args.instance.now in
    let links = c.args.links.now in
    let limited = c.args.change.now.limited in
    let back = c.restore.new.back.items in
    let s = c.args.supports.now in
    let m = c.restore.new.self in
    let l = c.limit.new.supports in
    let r = c.recount.new.supports in
    let n = c.settle_back.new.self in
    let before = shape_then s m l c.restore.ensures.restored.shape (kept_shape m l c.limit.ensures.keeps) in
    let came = waiting_restored J links _ c.args.change.now.recounted s m back c.restore.ensures.restored c.requires.ready.fits.period c.requires.ready.rest in
    let waiting = waiting_taken links c.args.change.now.recounted back m l came c.limit.ensures.taken c.limit.ensures.keeps in
    let first = (c.recount.ensures.counted back waiting).1 in
    let second : KeepsClosed l.period links.ends links.lists (has_at r.rows) (has_at n.rows) = subst (λ k. KeepsClosed k links.ends links.lists (has_at r.rows) (has_at n.rows)) c.recount.ensures.shape.period c.settle_back.ensures.keeps in
    let both = keeps_then l.period links.ends links.lists (has_at l.rows) (has_at r.rows) (has_at n.rows) first second in
    let shape = shape_then l r n c.recount.ensures.shape c.settle_back.ensures.shape in
    record {
      middle = m;
      restored = rw c.places-starts.ensures at c.restore.ensures.restored;
      keeps = keeps_like links n.period l.period (left J limited (has_at m.rows)) (has_at l.rows) (has_at n.rows) (sym shape.period) c.limit.ensures.rows both;
      rest = c.settle_back.ensures.rest;
      shape = shape_then s l n before shape;
    }

pub returns-clause-worked : goal.returns-clause-worked
unfolding returns-clause-back
returns-clause-worked c =
    let J = c.args.instance.now in
    let links = c.args.links.now in
    let back = c.restore.new.back.items in
    let s = c.args.supports.now in
    let m = c.restore.new.self in
    let l = c.limit.new.supports in
    let r = c.recount.new.supports in
    let n = c.settle_back.new.self in
    let restored = c.restore.ensures.restored in
    let taken = taken_then m l n c.limit.ensures.taken (taken_then l r n c.recount.ensures.taken c.settle_back.ensures.taken) in
    let keeps = (returns-clause-back c).keeps in
    let later = subst (λ xs. n.probes ≤ r.probes + ends_at links xs + r.period * ends_at links n.trail) c.deref.ensures.value c.settle_back.ensures.probes in
    let probes : n.probes ≤ m.probes + 8 * s.period + ends_at links back + r.period * ends_at links n.trail =
    (let a = c.limit.ensures.probes in
    let b = c.recount.ensures.probes in
    let d = c.limit.ensures.keeps.period ∙ restored.shape.period in
    omega (arith, a, b, d, later))
    in
    worked_is links s m n back c.requires.ready.rest.trail restored.trail restored.rows taken
    (left_placed J links n.period c.args.change.now.limited (has_at m.rows) (has_at n.rows) c.requires.ready.fits.stand c.requires.ready.limited keeps)
    (all_probes s.period r.period s.probes m.probes n.probes (ends_at links back) (length back) (ends_at links n.trail) c.restore.ensures.period (c.recount.ensures.shape.period ∙ c.limit.ensures.keeps.period ∙ restored.shape.period) c.restore.ensures.probes probes)
