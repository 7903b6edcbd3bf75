-- From full rows the domains are settled.
use Rattle.pesp_counts.proofs.Keeping.{for_same}
use Rattle.pesp_counts_supports.proofs.Marks.{rest_pending}
use Rattle.pesp_counts.proofs.Remade.{full_as, remade}
use Rattle.pesp_counts_supports.proofs.Taken.{kept_shape, shape_then, fit_then}
use Rattle.pesp_counts.proofs.keeper.counted.remake.Goals as goal

pub limit_windows-requires-clause-fits : goal.limit_windows-requires-clause-fits
limit_windows-requires-clause-fits c = for_same c.args.instance.now c.args.links.now c.args.supports.now c.refill.new.self c.refill.ensures.shape c.requires

pub settle-requires : goal.settle-requires
settle-requires c =
    let I = c.args.instance.now in
    let links = c.args.links.now in
    let s = c.refill.new.self in
    let m = c.limit_windows.new.supports in
    let keeps = c.limit_windows.ensures.keeps in
    let fits = for_same I links c.args.supports.now s c.refill.ensures.shape c.requires in
    let rest = full_as c.args.instance.now c.args.links.now c.args.supports.now s c.requires c.refill.ensures.shape c.refill.ensures.exact c.refill.ensures.counted c.refill.ensures.rows c.refill.ensures.trail in
    record {
      fit = fit_then links s m (kept_shape s m keeps) fits.fit;
      pending = rw c.refill.ensures.trail at (rest_pending links s m rest c.limit_windows.ensures.taken keeps);
    }

pub returns-clause-settled : goal.returns-clause-settled
returns-clause-settled c =
    let s = c.refill.new.self in
    let fits = for_same c.args.instance.now c.args.links.now c.args.supports.now s c.refill.ensures.shape c.requires in
    let rest = full_as c.args.instance.now c.args.links.now c.args.supports.now s c.requires c.refill.ensures.shape c.refill.ensures.exact c.refill.ensures.counted c.refill.ensures.rows c.refill.ensures.trail in
    remade c.args.instance.now c.args.links.now s c.limit_windows.new.supports c.settle.new.self c.limit_windows.ensures.network fits rest c.limit_windows.ensures.all c.limit_windows.ensures.taken c.limit_windows.ensures.keeps
    c.settle.ensures.pending c.settle.ensures.keeps c.settle.ensures.taken c.settle.ensures.shape

pub returns-clause-shape : goal.returns-clause-shape
returns-clause-shape c =
    let s = c.args.supports.now in
    let a = c.refill.new.self in
    let b = c.limit_windows.new.supports in
    shape_then s a c.settle.new.self c.refill.ensures.shape (shape_then a b c.settle.new.self (kept_shape a b c.limit_windows.ensures.keeps) c.settle.ensures.shape)
