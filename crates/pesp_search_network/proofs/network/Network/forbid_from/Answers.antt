-- One residue more is forbidden.
use Rattle.std.proofs.Common.{◌+◌, ◌<◌, sym, subst, arith}
use Rattle.pesp_search_network.specs.Narrow.{IsNarrowed}
use Rattle.pesp_search_network.proofs.Narrowed.{narrowed_more}
use Rattle.pesp_search_network.proofs.network.Network.forbid_from.Goals as goal

pub loop-residue-preserved : goal.loop-residue-preserved
loop-residue-preserved c =
    let N = c.args.self.now in
    let r = c.loop-residue.residue in
    let below : r < N.period = omega (arith, c.loop-residue-test.true, c.requires.high) in
    subst (IsNarrowed c.args.event c.args.low (r + 1) N) (sym c.forbid.ensures)
    (narrowed_more c.args.event c.args.low r N c.loop-residue.self c.loop-residue.auto.residue below c.loop-residue.invariant)
