-- An activity with another weight leaves an instance.
use Rattle.std.proofs.Common.{◌≡◌, Some, sym, refl, ◌∙◌}
use Rattle.pesp_base.specs.declared.activity.Activity.{Activity}
use Rattle.pesp_base.specs.Numbered.{with_number, change_in}
use Rattle.pesp_instance.specs.Stored.{network_in}
use Rattle.pesp_instance.proofs.Effects.{changed_activity, changed-activities}
use Rattle.pesp_instance.proofs.Rising.{number-with_number}
use Rattle.pesp_instance.proofs.Relisted.{AreListed-change_in}
use Rattle.pesp_instance.proofs.instance.Instance.set_weight.Goals as goal

pub value_at-activity-requires : goal.value_at-activity-requires
value_at-activity-requires c = record { slot = (c.get-2.result, sym c.in-Some.ensures.slot) }

pub set-requires : goal.set-requires
set-requires c =
    let there = sym c.in-Some.ensures.slot in
    record { slot = rw (number-with_number (λ x. x.id) c.get-2.result c.self.inside.activities.values c.value_at-activity.result.now (c.value_at-activity.ensures c.get-2.result there)) there }

pub invariant_of-self : goal.invariant_of-self
invariant_of-self c =
    let is : with_number (λ x. x.id) c.args.id c.self.inside.activities.values ≡ Some c.value_at-activity.result.now = rw c.get-2.ensures.value at (c.value_at-activity.ensures c.get-2.result (sym c.in-Some.ensures.slot)) in
    let change : Activity → Activity = λ x. record x { weight = c.args.weight } in
    let same : c.set.new.self.values ≡ change_in (λ x. x.id) c.args.id change c.self.inside.activities.values = c.set.ensures ∙ changed-activities c.self.inside.activities.values c.args.id c.value_at-activity.result.now is change c.self.invariant.network.activities_rise in
    rw same (record {
      network = changed_activity (network_in c.self.inside) c.args.id change (λ x. refl) (λ x within. record { number = within.number; bounds = within.bounds; weight = c.get.ensures.limit }) (λ x ends. record { from = ends.from; to = ends.to }) c.self.invariant.network;
      listed = AreListed-change_in c.self.inside.activities.values c.self.inside.vertices.values c.args.id change (λ x. refl) (λ e x. refl) c.self.invariant.listed;
    })

pub returns-clause-ok : goal.returns-clause-ok
returns-clause-ok c =
    let is : with_number (λ x. x.id) c.args.id c.self.inside.activities.values ≡ Some c.value_at-activity.result.now = rw c.get-2.ensures.value at (c.value_at-activity.ensures c.get-2.result (sym c.in-Some.ensures.slot)) in
    let change : Activity → Activity = λ x. record x { weight = c.args.weight } in
    let same : c.set.new.self.values ≡ change_in (λ x. x.id) c.args.id change c.self.inside.activities.values = c.set.ensures ∙ changed-activities c.self.inside.activities.values c.args.id c.value_at-activity.result.now is change c.self.invariant.network.activities_rise in
    rw (← c.self.view_is, is, same) refl
