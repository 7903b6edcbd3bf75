-- What has no partner waits, and settling counts it out.
use Rattle.std.proofs.Common.{◌+◌, ◌*◌, ◌≤◌, subst, arith}
use Rattle.pesp_counts_supports.specs.Counts.{KeepsClosed, has_at}
use Rattle.pesp_counts_supports.specs.Spent.{ends_at}
use Rattle.pesp_counts_supports.proofs.PutBack.{back_keeps, back_pending, back_rest}
use Rattle.pesp_counts_supports.proofs.Taken.{keeps_then, kept_shape, taken_then, fit_then}
use Rattle.pesp_counts_supports.proofs.supports.Supports.settle_back.Goals as goal

pub settle-requires-clause-fit : goal.settle-requires-clause-fit
settle-requires-clause-fit c = fit_then c.args.links.now c.args.self.now c.sift_back.new.self (kept_shape c.args.self.now c.sift_back.new.self c.sift_back.ensures.keeps) c.requires.fit

pub settle-requires-clause-pending : goal.settle-requires-clause-pending
settle-requires-clause-pending c = back_pending c.args.links.now c.args.self.now c.sift_back.new.self c.args.back.now c.requires.pending c.sift_back.ensures.rows c.sift_back.ensures.taken c.sift_back.ensures.keeps

pub returns-clause-rest : goal.returns-clause-rest
returns-clause-rest c = back_rest c.args.links.now c.args.self.now c.sift_back.new.self c.args.back.now c.requires.pending c.sift_back.ensures.rows c.sift_back.ensures.taken c.sift_back.ensures.keeps c.settle.new.self c.settle.ensures.pending c.settle.ensures.taken c.settle.ensures.shape

pub returns-clause-keeps : goal.returns-clause-keeps
returns-clause-keeps c =
    let links = c.args.links.now in
    let s = c.args.self.now in
    let m = c.sift_back.new.self in
    let n = c.settle.new.self in
    keeps_then s.period links.ends links.lists (has_at s.rows) (has_at m.rows) (has_at n.rows)
    (back_keeps links s m c.args.back.now c.requires.pending c.sift_back.ensures.rows c.sift_back.ensures.taken c.sift_back.ensures.keeps)
    (subst (λ k. KeepsClosed k links.ends links.lists (has_at m.rows) (has_at n.rows)) c.sift_back.ensures.keeps.period c.settle.ensures.keeps)

pub returns-clause-taken : goal.returns-clause-taken
returns-clause-taken c = taken_then c.args.self.now c.sift_back.new.self c.settle.new.self c.sift_back.ensures.taken c.settle.ensures.taken

pub returns-clause-probes : goal.returns-clause-probes
returns-clause-probes c =
    let settled = subst (λ n. c.settle.new.self.probes ≤ c.sift_back.new.self.probes + n * ends_at c.args.links.now c.settle.new.self.trail) c.sift_back.ensures.keeps.period c.settle.ensures.probes in
    omega (arith, settled, c.sift_back.ensures.probes)
