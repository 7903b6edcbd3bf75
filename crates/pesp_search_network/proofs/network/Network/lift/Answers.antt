-- The map of the reduced network is lifted, and costs in this one what the reduction says.
use Rattle.std.proofs.Common.{◌≡◌, ◌+◌, ◌*◌, ℕ, List, sym, subst, ◌∙◌}
use Rattle.pesp_search_network.specs.Arcs.{IsCosted}
use Rattle.pesp_search_network.specs.Shifts.{lifted}
use Rattle.pesp_search_network.proofs.network.Network.lift.Goals as goal

pub unreachable-requires : goal.unreachable-requires
unreachable-requires c =
    let N = c.args.self.now in
    let r = c.args.reduction.now in
    let y : List ℕ = c.args.candidate.now.map.items in
    let cost : ℕ = r.fixed + r.factor * c.args.candidate.now.cost in
    let same : c.deref-3.result.now ≡ lifted r.network.period r.shifts.items y = c.deref-3.ensures.value ∙ rw (c.period-period.ensures, c.deref.ensures.value, c.deref-2.ensures.value) at c.in_ok-map.ensures in
    c.in-None.ensures cost (subst (λ (x : List ℕ). IsCosted N x cost) (sym same) (c.requires.reduction.up y c.args.candidate.now.cost c.requires.candidate))
