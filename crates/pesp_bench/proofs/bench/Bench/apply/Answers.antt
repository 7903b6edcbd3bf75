-- What is kept is the optimum of the edited instance, and the cost is of it too.
use Rattle.std.proofs.Common.{◌≡◌, ◌↔◌, ◌∙◌, IfSome, IsTrue, Ok, refl, sym, subst}
use Rattle.std.proofs.lemmas.Bool.{false≢true}
use Rattle.pesp_instance.specs.Edited.{edited}
use Rattle.pesp_instance.specs.Network.{IsNetwork, Network}
use Rattle.pesp_bench.specs.Kept.{IsKeptBy, Keeps}
use Rattle.pesp_bench.specs.State.{IsState}
use Rattle.pesp_bench.proofs.CostMoves.{costed_then}
use Rattle.pesp_bench.proofs.Stands.{kept_by}
use Rattle.pesp_bench.proofs.States.{after_edit}
use Rattle.pesp_bench.proofs.bench.Bench.apply.Goals as goal

pub invariant_of-self-then-not-is_kept : goal.invariant_of-self-then-not-is_kept
invariant_of-self-then-not-is_kept g c =
    let before : Network = g.K.Keeper.network c.self.inside.keeper in
    let after : Network = g.K.Keeper.network c.apply.new.self in
    let network : IsNetwork before = subst IsNetwork c.instance.ensures c.keeps-is_kept.ensures.network in
    let told : IfSome c.self.inside.known (λ answer. IsTrue c.keeps-is_kept.result ↔ Keeps before c.args.edit.now answer) =
    (subst (λ I. (J : Network) → edited I c.args.edit.now ≡ Ok J → IfSome c.self.inside.known (λ answer. IsTrue c.keeps-is_kept.result ↔ Keeps I c.args.edit.now answer)) c.instance.ensures c.keeps-is_kept.ensures.value) after c.in_ok-apply.ensures.ok
    in
    let kept : IsKeptBy before c.args.edit.now c.self.inside.known c.forget.new.known =
    kept_by before c.args.edit.now c.self.inside.known c.forget.new.known c.keeps-is_kept.result told (λ is. absurd (false≢true (sym c.if-not-is_kept.true ∙ is))) (λ _. c.forget.ensures)
    in (
      subst (λ n. IsState after (g.K.Keeper.pushes c.apply.new.self) n c.forget.new.known) (sym c.clear_dropped.ensures)
          (after_edit before after c.args.edit.now (g.K.Keeper.pushes c.self.inside.keeper) (g.K.Keeper.pushes c.apply.new.self) c.self.inside.times c.self.inside.known c.forget.new.known c.self.invariant.0 network c.in_ok-apply.ensures.ok c.apply.ensures.pushes kept),
      costed_then _ _ _ c.self.inside.times _ c.args.edit.now _ _ c.instance-2.ensures c.after_edit-kept.ensures c.in_ok-apply.ensures.ok c.clear_dropped.ensures,
    )

pub invariant_of-self-else-not-is_kept : goal.invariant_of-self-else-not-is_kept
invariant_of-self-else-not-is_kept g c =
    let before : Network = g.K.Keeper.network c.self.inside.keeper in
    let after : Network = g.K.Keeper.network c.apply.new.self in
    let network : IsNetwork before = subst IsNetwork c.instance.ensures c.keeps-is_kept.ensures.network in
    let told : IfSome c.self.inside.known (λ answer. IsTrue c.keeps-is_kept.result ↔ Keeps before c.args.edit.now answer) =
    (subst (λ I. (J : Network) → edited I c.args.edit.now ≡ Ok J → IfSome c.self.inside.known (λ answer. IsTrue c.keeps-is_kept.result ↔ Keeps I c.args.edit.now answer)) c.instance.ensures c.keeps-is_kept.ensures.value) after c.in_ok-apply.ensures.ok
    in
    let kept : IsKeptBy before c.args.edit.now c.self.inside.known c.self.inside.known =
    kept_by before c.args.edit.now c.self.inside.known c.self.inside.known c.keeps-is_kept.result told (λ _. refl) (λ out. absurd (false≢true (sym out ∙ c.if-not-is_kept.false)))
    in (
      subst (λ n. IsState after (g.K.Keeper.pushes c.apply.new.self) n c.self.inside.known) (sym c.clear_dropped.ensures)
          (after_edit before after c.args.edit.now (g.K.Keeper.pushes c.self.inside.keeper) (g.K.Keeper.pushes c.apply.new.self) c.self.inside.times c.self.inside.known c.self.inside.known c.self.invariant.0 network c.in_ok-apply.ensures.ok c.apply.ensures.pushes kept),
      costed_then _ _ _ c.self.inside.times _ c.args.edit.now _ _ c.instance-2.ensures c.after_edit-kept.ensures c.in_ok-apply.ensures.ok c.clear_dropped.ensures,
    )
