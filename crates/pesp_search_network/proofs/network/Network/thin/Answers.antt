-- One event more is left one residue, or stays as it is.
use mathlib.Core.Bool.{beq}
use Rattle.std.proofs.Common.{◌≡◌, ◌≢◌, Bool, true, false, not, IsTrue, sym, subst, ◌∙◌}
use Rattle.std.proofs.lemmas.Bool.{false≢true}
use Rattle.pesp_search_network.specs.Arcs.{Arcs}
use Rattle.pesp_search_network.specs.Pieces.{IsThinned, is_inner}
use Rattle.pesp_search_network.proofs.Thinned.{thinned_more}
use Rattle.pesp_search_network.proofs.network.Network.thin.Goals as goal
use Rattle.pesp_search_network.proofs.network.Network.thin.Goals.{then-has-side, else-has-side}

apart_bools : (b c : Bool) {d : Bool} → IsTrue (not (beq b c)) → b ≡ d → d ≢ c
apart_bools true true told same = absurd (false≢true told)
apart_bools true false told same = λ e. false≢true (sym (same ∙ e))
apart_bools false true told same = λ e. false≢true (same ∙ e)
apart_bools false false told same = absurd (false≢true told)

pub loop-event-preserved : goal.loop-event-preserved
loop-event-preserved c =
    let inner = c.args.cut.now.inner.items in
    let N = c.args.self.now in
    elim c.if-has-side.branch [
      | then-has-side w ↦
          (let other : is_inner inner c.loop-event.event ≢ c.args.side = apart_bools c.has.result c.args.side w.if-has-side.true c.has.ensures in
          subst (λ (M : Arcs). IsThinned inner c.args.side N M) (sym w.self-is)
          (thinned_more inner c.args.side c.loop-event.event N c.loop-event.self w.hold_first.new.self other c.loop-event.invariant w.hold_first.ensures))
      | else-has-side w ↦ subst (λ (M : Arcs). IsThinned inner c.args.side N M) (sym w.self-is) c.loop-event.invariant
    ]
