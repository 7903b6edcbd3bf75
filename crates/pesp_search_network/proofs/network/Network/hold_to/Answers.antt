-- One residue more is held.
use Rattle.std.proofs.Common.{◌+◌, ◌<◌, IsTrue, sym, subst, arith, mod-lt}
use Rattle.pesp_search_network.specs.Arcs.{Arcs, has}
use Rattle.pesp_search_network.specs.Tied.{IsHeldTo}
use Rattle.pesp_search_network.proofs.Held.{held_not, held_there}
use Rattle.pesp_search_network.proofs.network.Network.hold_to.Goals.{then-not-may_have, else-not-may_have}
use Rattle.pesp_search_network.proofs.network.Network.hold_to.Goals as goal

pub loop-residue-preserved : goal.loop-residue-preserved
loop-residue-preserved c =
    let N = c.args.self.now in
    let e = c.args.event in
    let s = c.args.shift in
    let r = c.loop-residue.residue in
    let old = c.args.reduced.now in
    let M = c.loop-residue.reduced in
    let later = rw c.period-period.ensures at c.later.ensures in
    let within : r < N.period = omega (arith, c.loop-residue-test.true, c.get-residue-end.ensures.value, c.period-period.ensures) in
    elim c.if-not-may_have.branch [
      | then-not-may_have w ↦
          subst (λ (K : Arcs). IsHeldTo N e s (r + 1) old K) (sym w.reduced-is)
          (subst (λ (K : Arcs). IsHeldTo N e s (r + 1) old K) (sym w.forbid.ensures)
          (held_not N e s r old M c.loop-residue.invariant (omega (arith, within, c.requires.period))
          (λ h. w.if-not-may_have.ensures (subst (λ k. k < N.period) (sym later) (mod-lt (r + s.offset) (omega (arith, within))), subst (λ k. IsTrue (has N e k)) (sym later) h))))
      | else-not-may_have w ↦
          subst (λ (K : Arcs). IsHeldTo N e s (r + 1) old K) (sym w.reduced-is)
          (held_there N e s r old M c.loop-residue.invariant (subst (λ k. IsTrue (has N e k)) later w.if-not-may_have.ensures.1))
    ]
