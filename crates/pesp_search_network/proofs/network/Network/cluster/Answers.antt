-- The leaders' network is searched in the place of this one.
use Rattle.std.proofs.Common.{◌≡◌, List, ℕ, length, sym, subst, ap, ◌∙◌, rules}
use Rattle.pesp_search_network.specs.Arcs.{Arcs}
use Rattle.pesp_search_network.specs.Reduced.{IsReduced}
use Rattle.pesp_search_network.specs.Shifts.{lifted}
use Rattle.pesp_search_network.specs.Tied.{AreMoved, AreRowsHeld}
use Rattle.pesp_search_network.specs.declared.presolve.shift.Shift.{Shift}
use Rattle.pesp_search_network.proofs.Clustered.{clustered}
use Rattle.pesp_search_network.proofs.Held.{rows_with}
use Rattle.pesp_search_network.proofs.network.Network.cluster.Goals as goal

pub returns : goal.returns
returns c =
    let N = c.args.self.now in
    let leaders : List ℕ = c.in_ok-leaders.field-0.leaders.items in
    let shifts : List Shift = c.in_ok-leaders.field-0.shifts.items in
    let H = c.hold_rows.new.reduced in
    let K = c.move_arcs.new.reduced in
    let M = c.imply_clusters.new.reduced in
    let new = c.in_ok-network.ensures in
    let same : K ≡ record H { arcs = K.arcs } = c.in_ok-move_arcs.ensures.same in
    let period : K.period ≡ N.period = ap (λ (L : Arcs). L.period) same ∙ c.hold_rows.ensures.period ∙ ap (λ (L : Arcs). L.period) new ∙ c.period.ensures in
    let count : c.len-2.result ≡ length leaders = search rules in
    let events : K.events ≡ length leaders = ap (λ (L : Arcs). L.events) same ∙ c.hold_rows.ensures.events ∙ ap (λ (L : Arcs). L.events) new ∙ count in
    let ascending = rw c.deref-else-len-events.ensures.value at (c.are_ascending.ensures c.if-not-are_ascending.false) in
    let held : AreRowsHeld N shifts N.events K = subst (λ (L : Arcs). AreRowsHeld N shifts N.events L) (sym same) (rows_with N shifts N.events H K.arcs (rw c.deref-2.ensures.value at c.hold_rows.ensures.held)) in
    let moved : AreMoved N shifts K = rw c.deref-3.ensures.value at (c.in_ok-move_arcs.ensures.moved c.if-not-branch.false) in
    subst (λ (L : Arcs). IsReduced N L 0 1 (lifted L.period shifts)) (sym c.imply_clusters.ensures)
    (subst (λ T. IsReduced N K 0 1 (lifted T shifts)) (sym period) (clustered N K leaders shifts c.sound.ensures c.in_ok-leaders.ensures ascending period events held moved))
