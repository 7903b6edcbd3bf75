-- The search is of the edited instance, and what takes the edit back gives the instance.
use Rattle.std.proofs.Common.{◌≡◌, ◌∙◌, ap, subst, Ok}
use Rattle.pesp_instance.specs.Edited.{edited, effect}
use Rattle.pesp_instance.specs.Network.{IsNetwork, Network}
use Rattle.pesp_domains.proofs.Edits.{effect_is}
use Rattle.pesp_bench.specs.Trials.{edit_of, is_within}
use Rattle.pesp_bench.proofs.Undone.{undone}
use Rattle.pesp_bench.proofs.trial.search_trial.Goals as goal

pub returns-in-Ok-clause-priced : goal.returns-in-Ok-clause-priced
returns-in-Ok-clause-priced g c =
    let I : Network = g.K.Keeper.network c.args.keeper.now in
    let made : edited I (edit_of c.args.trial.now) ≡ Ok (g.K.Keeper.network c.apply.new.self) = rw c.edit-edit.ensures at c.in_ok-apply.ensures.ok in
    let after : g.K.Keeper.network c.apply.new.self ≡ effect I (edit_of c.args.trial.now) = effect_is I _ (edit_of c.args.trial.now) made in
    let same : c.is_within-is_within.result ≡ is_within I c.args.trial.now = c.is_within-is_within.ensures ∙ ap (λ J. is_within J c.args.trial.now) c.instance-instance.ensures in
    record { accepted = made ∙ ap Ok after; within = λ is. rw after at (c.in-Ok.ensures.within (same ∙ is)); outside = λ is. c.in-Ok.ensures.outside (same ∙ is) }

pub returns-in-Ok-clause-network : goal.returns-in-Ok-clause-network
returns-in-Ok-clause-network g c =
    let I : Network = g.K.Keeper.network c.args.keeper.now in
    let network : IsNetwork I = subst IsNetwork c.instance-instance.ensures c.undo-undo.ensures.network in
    let made : edited I (edit_of c.args.trial.now) ≡ Ok (g.K.Keeper.network c.apply.new.self) = rw c.edit-edit.ensures at c.in_ok-apply.ensures.ok in
    undone I (g.K.Keeper.network c.apply.new.self) (g.K.Keeper.network c.apply-2.new.self) c.args.trial.now c.apply-2.result network made
    (rw (c.search_within-known.ensures.network, c.undo-undo.ensures.undo, c.instance-instance.ensures) at c.apply-2.ensures.ok)
    (rw (c.search_within-known.ensures.network, c.undo-undo.ensures.undo, c.instance-instance.ensures) at c.apply-2.ensures.err)

pub returns-in-Err-clause-network : goal.returns-in-Err-clause-network
returns-in-Err-clause-network g c =
    let I : Network = g.K.Keeper.network c.args.keeper.now in
    let network : IsNetwork I = subst IsNetwork c.instance-instance.ensures c.undo-undo.ensures.network in
    let made : edited I (edit_of c.args.trial.now) ≡ Ok (g.K.Keeper.network c.apply.new.self) = rw c.edit-edit.ensures at c.in_ok-apply.ensures.ok in
    undone I (g.K.Keeper.network c.apply.new.self) (g.K.Keeper.network c.apply-2.new.self) c.args.trial.now c.apply-2.result network made
    (rw (c.search_within-known.ensures.network, c.undo-undo.ensures.undo, c.instance-instance.ensures) at c.apply-2.ensures.ok)
    (rw (c.search_within-known.ensures.network, c.undo-undo.ensures.undo, c.instance-instance.ensures) at c.apply-2.ensures.err)
