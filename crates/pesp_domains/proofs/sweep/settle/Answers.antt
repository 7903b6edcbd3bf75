-- Sweeps end with one that takes nothing out.
use Rattle.std.proofs.Common.{subst}
use Rattle.pesp_domains.specs.Rows.{has}
use Rattle.pesp_domains.specs.Sweeps.{IsPass}
use Rattle.pesp_domains.proofs.Passes.{sweeps_settle}
use Rattle.pesp_domains.proofs.sweep.settle.Goals as goal

pub returns-clause-settles : goal.returns-clause-settles
returns-clause-settles c =
    sweeps_settle c.args.instance.now _ _ _ c.loop.invariant.shrinks
    (subst (IsPass c.args.instance.now (has c.loop.rows) (has c.sweep.new.rows)) c.loop-test.false c.sweep.ensures.pass)
    (c.sweep.ensures.settled c.loop-test.false)
