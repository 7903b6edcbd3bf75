-- An activity with other ends, listed there and no longer at the old ones, leaves an instance.
use Rattle.std.proofs.Common.{rules, ◌≡◌, true, Some, sym, refl, ◌∙◌}
use Rattle.pesp_base.specs.declared.activity.Activity.{Activity}
use Rattle.pesp_base.specs.Numbered.{with_number, change_in}
use Rattle.pesp_instance.specs.Network.{has_event}
use Rattle.pesp_instance.specs.Stored.{network_in}
use Rattle.pesp_instance.proofs.Effects.{changed_activity, changed-activities, on_err, on_ok}
use Rattle.pesp_instance.proofs.Rising.{number-with_number}
use Rattle.pesp_instance.proofs.Relisted.{AreListed-moved, AreListed-same}
use Rattle.pesp_instance.proofs.instance.Instance.set_ends.Goals as goal

pub value_at-requires : goal.value_at-requires
value_at-requires c = record { slot = (c.get.result, sym c.in-Some.ensures.slot) }

pub set-requires : goal.set-requires
set-requires c =
    let there = sym c.in-Some.ensures.slot in
    record { slot = rw (number-with_number (λ x. x.id) c.get.result c.self.inside.activities.values c.value_at.result.now (c.value_at.ensures c.get.result there)) there }

pub invariant_of-self-2 : goal.invariant_of-self-2
invariant_of-self-2 c =
    let is : with_number (λ x. x.id) c.args.id c.self.inside.activities.values ≡ Some c.value_at.result.now = rw c.get.ensures.value at (c.value_at.ensures c.get.result (sym c.in-Some.ensures.slot)) in
    let change : Activity → Activity = λ x. record x { from = c.args.from; to = c.args.to } in
    let same : c.set.new.self.values ≡ change_in (λ x. x.id) c.args.id change c.self.inside.activities.values = c.set.ensures ∙ changed-activities c.self.inside.activities.values c.args.id c.value_at.result.now is change c.self.invariant.network.activities_rise in
    let linked = on_ok c.link.result c.if-is_err.ensures.value c.link.ensures.ok in
    let from : has_event (network_in c.self.inside) c.args.from ≡ true = sym c.in-Some-event_slot.ensures.known in
    let to : has_event (network_in c.self.inside) c.args.to ≡ true = sym c.in-Some-event_slot-2.ensures.known in
    record {
      network = rw (same, c.unlink_old.ensures.kept.events, c.link.ensures.kept.events) (changed_activity (network_in c.self.inside) c.args.id change (λ x. refl) (λ x within. record { number = within.number; bounds = within.bounds; weight = within.weight }) (λ x ends. record { from = from; to = to }) c.self.invariant.network);
      listed = rw same (AreListed-moved c.self.inside.activities.values c.self.inside.vertices.values c.link.new.self.values c.unlink_old.new.self.values c.args.id change c.value_at.result.now (λ x. refl) c.self.invariant.listed is linked c.unlink_old.ensures.listed);
    }

pub returns-clause-ok : goal.returns-clause-ok
returns-clause-ok c =
    let is : with_number (λ x. x.id) c.args.id c.self.inside.activities.values ≡ Some c.value_at.result.now = rw c.get.ensures.value at (c.value_at.ensures c.get.result (sym c.in-Some.ensures.slot)) in
    let change : Activity → Activity = λ x. record x { from = c.args.from; to = c.args.to } in
    let same : c.set.new.self.values ≡ change_in (λ x. x.id) c.args.id change c.self.inside.activities.values = c.set.ensures ∙ changed-activities c.self.inside.activities.values c.args.id c.value_at.result.now is change c.self.invariant.network.activities_rise in
    let from : has_event (network_in c.self.inside) c.args.from ≡ true = sym c.in-Some-event_slot.ensures.known in
    let to : has_event (network_in c.self.inside) c.args.to ≡ true = sym c.in-Some-event_slot-2.ensures.known in
    rw (← c.self.view_is, is, from, to, same, c.unlink_old.ensures.kept.events, c.link.ensures.kept.events) refl

-- by search, and named so that a wrong body is refused here at once
pub returns-in_default-event_slot-2-clause-err : goal.returns-in_default-event_slot-2-clause-err
returns-in_default-event_slot-2-clause-err c = search rules

-- The rest is found by search too, and named so that it is found at once.
pub link-requires-clause-from : goal.link-requires-clause-from
link-requires-clause-from c = sym c.in-Some-event_slot.ensures.slot

pub link-requires-clause-to : goal.link-requires-clause-to
link-requires-clause-to c = sym c.in-Some-event_slot-2.ensures.slot

pub invariant_of-self : goal.invariant_of-self
invariant_of-self c =
    let listed = on_err c.link.result c.if-is_err.ensures.value c.link.ensures.err in
    record {
      network = rw c.link.ensures.kept.events c.self.invariant.network;
      listed = AreListed-same c.self.inside.activities.values c.self.inside.vertices.values c.link.new.self.values listed c.self.invariant.listed;
    }

pub returns-then-is_err-clause-ok : goal.returns-then-is_err-clause-ok
returns-then-is_err-clause-ok c = tt

pub returns-then-is_err-clause-unchanged : goal.returns-then-is_err-clause-unchanged
returns-then-is_err-clause-unchanged c = rw (← c.self.view_is, c.link.ensures.kept.events) refl

pub returns-clause-err : goal.returns-clause-err
returns-clause-err c = tt

pub returns-clause-unchanged : goal.returns-clause-unchanged
returns-clause-unchanged c = tt
