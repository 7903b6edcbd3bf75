-- Both ends are counted anew, and then looked through.
use Rattle.std.proofs.Common.{◌*◌, ◌∙◌, ap, subst, arith}
use Rattle.pesp_counts_supports.proofs.Taken.{keeps_none, kept_shape, kept_then, shape_none, shape_then, taken_same, taken_then}
use Rattle.pesp_counts_supports.specs.Counts.{has_at}
use Rattle.pesp_counts.specs.Changes.{AreWaitingBut}
use Rattle.pesp_counts.proofs.Carried.{tail_mate}
use Rattle.pesp_counts.proofs.Gone.{recounted_probes}
use Rattle.pesp_counts.proofs.Propagated.{both_ends, pending_none, recounted}
use Rattle.pesp_counts.proofs.keeper.propagating.recount.Goals as goal

pub tail_at-tail-requires : goal.tail_at-tail-requires
tail_at-tail-requires c = let (tail, head, fit) = both_ends c.requires.fits.0 c.args.links.now c.args.supports.now c.args.supports.now c.in-Some.place c.requires.fits.1 (shape_none c.args.supports.now) (c.requires.listed c.in-Some.place c.in-Some.is) in tail.within

pub end-end-requires : goal.end-end-requires
end-end-requires c = let (tail, head, fit) = both_ends c.requires.fits.0 c.args.links.now c.args.supports.now c.args.supports.now c.in-Some.place c.requires.fits.1 (shape_none c.args.supports.now) (c.requires.listed c.in-Some.place c.in-Some.is) in rw c.tail_at-tail.ensures tail.within

pub end-mate-requires : goal.end-mate-requires
end-mate-requires c = let (tail, head, fit) = both_ends c.requires.fits.0 c.args.links.now c.args.supports.now c.args.supports.now c.in-Some.place c.requires.fits.1 (shape_none c.args.supports.now) (c.requires.listed c.in-Some.place c.in-Some.is) in rw (c.end-end.ensures, c.tail_at-tail.ensures) head.within

pub recount-requires : goal.recount-requires
recount-requires c =
    let (tail, head, fit) = both_ends c.requires.fits.0 c.args.links.now c.args.supports.now c.args.supports.now c.in-Some.place c.requires.fits.1 (shape_none c.args.supports.now) (c.requires.listed c.in-Some.place c.in-Some.is) in
    rw (c.end-end.ensures, c.tail_at-tail.ensures)
    (record {
      end = fit.counts _ _ (c.requires.listed c.in-Some.place c.in-Some.is).1;
      looks = fit.counted _ _ tail.mate_there;
      first = tail.first;
      width = tail.width;
    })

pub recount-requires-in-Some : goal.recount-requires-in-Some
recount-requires-in-Some c =
    let (tail, head, fit) = both_ends c.requires.fits.0 c.args.links.now c.args.supports.now c.recount.new.self c.in-Some.place c.requires.fits.1 c.recount.ensures.shape (c.requires.listed c.in-Some.place c.in-Some.is) in
    rw (c.end-mate.ensures, c.end-end.ensures, c.tail_at-tail.ensures)
    (record {
      end = fit.counts _ _ tail.mate_there;
      looks = fit.counted _ _ head.mate_there;
      first = rw c.recount.ensures.shape.period head.first;
      width = rw c.recount.ensures.shape.period head.width;
    })

pub sift-requires : goal.sift-requires
sift-requires c =
    let (tail, head, fit) = both_ends c.requires.fits.0 c.args.links.now c.args.supports.now c.recount-in-Some.new.self c.in-Some.place c.requires.fits.1 (shape_then c.args.supports.now c.recount.new.self c.recount-in-Some.new.self c.recount.ensures.shape c.recount-in-Some.ensures.shape) (c.requires.listed c.in-Some.place c.in-Some.is) in
    rw (c.end-mate.ensures, c.end-end.ensures, c.tail_at-tail.ensures) (record { place = fit.rows _ _ head.mate_there; end = fit.counts _ _ (c.requires.listed c.in-Some.place c.in-Some.is).1 })

pub sift-requires-in-Some : goal.sift-requires-in-Some
sift-requires-in-Some c =
    let (tail, head, fit) = both_ends c.requires.fits.0 c.args.links.now c.args.supports.now c.sift.new.self c.in-Some.place c.requires.fits.1 (shape_then c.args.supports.now c.recount-in-Some.new.self c.sift.new.self (shape_then c.args.supports.now c.recount.new.self c.recount-in-Some.new.self c.recount.ensures.shape c.recount-in-Some.ensures.shape) (kept_shape c.recount-in-Some.new.self c.sift.new.self c.sift.ensures.keeps)) (c.requires.listed c.in-Some.place c.in-Some.is) in
    rw (c.end-end.ensures, c.tail_at-tail.ensures) (record { place = fit.rows _ _ tail.mate_there; end = fit.counts _ _ tail.mate_there })

pub returns-in-Some-clause-counted : goal.returns-in-Some-clause-counted
returns-in-Some-clause-counted c back w =
    let links = c.args.links.now in
    let s = c.args.supports.now in
    let a = c.recount.new.self in
    let b = c.recount-in-Some.new.self in
    let d = c.sift.new.self in
    let n = c.sift-in-Some.new.self in
    let q = c.in-Some.place in
    let x = c.recount.ensures in
    let y = c.recount-in-Some.ensures in
    let listed = c.requires.listed q c.in-Some.is in
    let linked = c.requires.fits.1.fit.linked in
    let mate = tail_mate c.requires.fits.0 links listed.0 q c.requires.fits.1.stand listed.1 in
    let tail = rw (c.end-end.ensures, c.tail_at-tail.ensures) at x.exact in
    let head = rw (c.end-mate.ensures, c.end-end.ensures, c.tail_at-tail.ensures, mate, x.shape.period, x.counted) at y.exact in
    let before = rw c.tail_at-tail.ensures at x.elsewhere in
    let later = rw (c.end-end.ensures, c.tail_at-tail.ensures, mate, x.shape.period) at y.elsewhere in
    let first = rw (c.end-mate.ensures, c.end-end.ensures, c.tail_at-tail.ensures, mate) at c.sift.ensures.rows in
    let second = rw (c.end-end.ensures, c.tail_at-tail.ensures, mate, c.sift.ensures.keeps.period, c.sift.ensures.keeps.counts) at c.sift-in-Some.ensures.rows in
    recounted links s b d n q listed.0 back linked listed.1 mate (subst (λ o. AreWaitingBut links s o back) c.in-Some.is w) (y.rows ∙ x.rows) (y.counted ∙ x.counted) (y.trail ∙ x.trail) (shape_then s a b x.shape y.shape)
    (λ r rl. later (2 * q) r (λ same. absurd (omega (arith, same))) rl ∙ tail r rl) head (λ k r apart other rl. later k r other rl ∙ before k r apart rl) first second
    (taken_then b d n c.sift.ensures.taken c.sift-in-Some.ensures.taken) (kept_then b d n c.sift.ensures.keeps c.sift-in-Some.ensures.keeps)

pub returns-in-Some-clause-taken : goal.returns-in-Some-clause-taken
returns-in-Some-clause-taken c =
    let s = c.args.supports.now in
    let b = c.recount-in-Some.new.self in
    let d = c.sift.new.self in
    let n = c.sift-in-Some.new.self in
    let x = c.recount.ensures in
    let y = c.recount-in-Some.ensures in
    taken_then s b n (taken_same s b (y.trail ∙ x.trail) (λ p r. ap (λ xs. has_at xs p r) (y.rows ∙ x.rows))) (taken_then b d n c.sift.ensures.taken c.sift-in-Some.ensures.taken)

pub returns-in-Some-clause-shape : goal.returns-in-Some-clause-shape
returns-in-Some-clause-shape c =
    let s = c.args.supports.now in
    let a = c.recount.new.self in
    let b = c.recount-in-Some.new.self in
    let d = c.sift.new.self in
    let n = c.sift-in-Some.new.self in
    shape_then s b n (shape_then s a b c.recount.ensures.shape c.recount-in-Some.ensures.shape) (kept_shape b n (kept_then b d n c.sift.ensures.keeps c.sift-in-Some.ensures.keeps))

pub returns-in-Some-clause-probes : goal.returns-in-Some-clause-probes
returns-in-Some-clause-probes c =
    recounted_probes c.args.supports.now.period c.recount.new.self.period c.recount-in-Some.new.self.period c.sift.new.self.period c.args.supports.now.probes c.recount.new.self.probes c.recount-in-Some.new.self.probes c.sift.new.self.probes c.sift-in-Some.new.self.probes
    c.recount.ensures.shape.period c.recount-in-Some.ensures.shape.period c.sift.ensures.keeps.period c.recount.ensures.probes c.recount-in-Some.ensures.probes c.sift.ensures.probes c.sift-in-Some.ensures.probes

pub returns-in_default-clause-counted : goal.returns-in_default-clause-counted
returns-in_default-clause-counted c back w =
    let s = c.args.supports.now in
    (pending_none c.args.links.now s c.args.recounted back c.in_default.not-Some w, keeps_none s.period c.args.links.now.ends c.args.links.now.lists (has_at s.rows))
