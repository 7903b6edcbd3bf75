-- One more activity, within the limits and listed at its ends, leaves an instance; so does one that is put in and taken out again.
use Rattle.std.proofs.Common.{◌≡◌, ◌<◌, ◌≤◌, true, false, None, length, sym, ap, ◌∙◌, arith, inl, inr, refl}
use Rattle.std.proofs.lemmas.Bool.{lt-leb, le-leb}
use Rattle.pesp_base.specs.Limits.{max_activities}
use Rattle.pesp_base.specs.Numbered.{with_number, put_in, take_out}
use Rattle.pesp_instance.specs.Network.{has_event}
use Rattle.pesp_instance.specs.Stored.{network_in}
use Rattle.pesp_base.proofs.Tests.{some_from}
use Rattle.pesp_instance.proofs.Effects.{added_activity, none_is, on_err, on_ok}
use Rattle.pesp_instance.proofs.Refused.{add_known, add_to_many, add_without_from, add_without_memory, add_without_to, added}
use Rattle.pesp_instance.proofs.Relisted.{AreListed-put_in, AreListed-same}
use Rattle.pesp_instance.proofs.Rising.{Rises-from_increasing, take_out-put_in}
use Rattle.pesp_instance.proofs.instance.Instance.add_activity.Goals as goal

pub invariant_of-self-then-is_err : goal.invariant_of-self-then-is_err
invariant_of-self-then-is_err c =
    let absent : with_number (λ x. x.id) c.args.activity.id c.self.inside.activities.values ≡ None = none_is _ (sym c.in-Ok-true.ensures.added ∙ c.in-Ok-true.field-0-test) in
    let same : c.insert.new.self.values ≡ put_in (λ x. x.id) c.args.activity c.self.inside.activities.values = c.in-Ok-true.ensures.put c.in-Ok-true.field-0-test in
    let undone : c.remove.new.self.values ≡ c.self.inside.activities.values = c.remove.ensures.removed ∙ ap (λ n. take_out (λ x. x.id) n c.insert.new.self.values) c.get-then-is_err.ensures.value ∙ ap (take_out (λ x. x.id) c.args.activity.id) same ∙ take_out-put_in (λ x. x.id) c.args.activity c.self.inside.activities.values (Rises-from_increasing (λ x. x.id) c.self.inside.activities.values c.self.invariant.network.activities_rise) absent in
    let listed = on_err c.link.result c.if-is_err.ensures.value c.link.ensures.err in
    record {
      network = rw (undone, c.link.ensures.kept.events) c.self.invariant.network;
      listed = rw undone (AreListed-same c.self.inside.activities.values c.self.inside.vertices.values c.link.new.self.values listed c.self.invariant.listed);
    }

pub returns-then-is_err-clause-unchanged : goal.returns-then-is_err-clause-unchanged
returns-then-is_err-clause-unchanged c =
    let absent : with_number (λ x. x.id) c.args.activity.id c.self.inside.activities.values ≡ None = none_is _ (sym c.in-Ok-true.ensures.added ∙ c.in-Ok-true.field-0-test) in
    let same : c.insert.new.self.values ≡ put_in (λ x. x.id) c.args.activity c.self.inside.activities.values = c.in-Ok-true.ensures.put c.in-Ok-true.field-0-test in
    let undone : c.remove.new.self.values ≡ c.self.inside.activities.values = c.remove.ensures.removed ∙ ap (λ n. take_out (λ x. x.id) n c.insert.new.self.values) c.get-then-is_err.ensures.value ∙ ap (take_out (λ x. x.id) c.args.activity.id) same ∙ take_out-put_in (λ x. x.id) c.args.activity c.self.inside.activities.values (Rises-from_increasing (λ x. x.id) c.self.inside.activities.values c.self.invariant.network.activities_rise) absent in
    rw (← c.self.view_is, undone, c.link.ensures.kept.events) refl

pub returns-then-is_err-clause-err : goal.returns-then-is_err-clause-err
returns-then-is_err-clause-err c =
    let absent : with_number (λ x. x.id) c.args.activity.id c.self.inside.activities.values ≡ None = none_is _ (sym c.in-Ok-true.ensures.added ∙ c.in-Ok-true.field-0-test) in
    let same : c.insert.new.self.values ≡ put_in (λ x. x.id) c.args.activity c.self.inside.activities.values = c.in-Ok-true.ensures.put c.in-Ok-true.field-0-test in
    let count : c.activity_count.result ≡ length c.self.inside.activities.values = rw (← c.self.view_is) at c.activity_count.ensures.value in
    let few : length c.self.inside.activities.values < max_activities c.self.inside.period = omega (arith, count, c.if-activity_count-max_activities.false, c.max_activities.ensures.value) in
    let from : has_event (network_in c.self.inside) c.args.activity.from ≡ true = sym c.in-Some.ensures.known in
    let to : has_event (network_in c.self.inside) c.args.activity.to ≡ true = sym c.in-Some-event_slot.ensures.known in
    let accepted = added (network_in c.self.inside) c.args.activity from to absent (lt-leb _ _ few) in
    rw (← c.self.view_is) (inr (refl, refl, rw accepted refl))

pub invariant_of-self-else-is_err : goal.invariant_of-self-else-is_err
invariant_of-self-else-is_err c =
    let absent : with_number (λ x. x.id) c.args.activity.id c.self.inside.activities.values ≡ None = none_is _ (sym c.in-Ok-true.ensures.added ∙ c.in-Ok-true.field-0-test) in
    let same : c.insert.new.self.values ≡ put_in (λ x. x.id) c.args.activity c.self.inside.activities.values = c.in-Ok-true.ensures.put c.in-Ok-true.field-0-test in
    let count : c.activity_count.result ≡ length c.self.inside.activities.values = rw (← c.self.view_is) at c.activity_count.ensures.value in
    let few : length c.self.inside.activities.values < max_activities c.self.inside.period = omega (arith, count, c.if-activity_count-max_activities.false, c.max_activities.ensures.value) in
    let from : has_event (network_in c.self.inside) c.args.activity.from ≡ true = sym c.in-Some.ensures.known in
    let to : has_event (network_in c.self.inside) c.args.activity.to ≡ true = sym c.in-Some-event_slot.ensures.known in
    let linked = on_ok c.link.result c.if-is_err.ensures.value c.link.ensures.ok in
    record {
      network = rw (same, c.link.ensures.kept.events) (added_activity (network_in c.self.inside) c.args.activity c.self.invariant.network
          (record { number = c.get.ensures.limit; bounds = c.lower.ensures.limits; weight = c.get-2.ensures.limit })
          (record { from = from; to = to })
          absent few);
      listed = rw same (AreListed-put_in c.self.inside.activities.values c.self.inside.vertices.values c.link.new.self.values c.args.activity c.self.invariant.listed absent linked);
    }

pub returns-clause-ok : goal.returns-clause-ok
returns-clause-ok c =
    let absent : with_number (λ x. x.id) c.args.activity.id c.self.inside.activities.values ≡ None = none_is _ (sym c.in-Ok-true.ensures.added ∙ c.in-Ok-true.field-0-test) in
    let same : c.insert.new.self.values ≡ put_in (λ x. x.id) c.args.activity c.self.inside.activities.values = c.in-Ok-true.ensures.put c.in-Ok-true.field-0-test in
    let count : c.activity_count.result ≡ length c.self.inside.activities.values = rw (← c.self.view_is) at c.activity_count.ensures.value in
    let few : length c.self.inside.activities.values < max_activities c.self.inside.period = omega (arith, count, c.if-activity_count-max_activities.false, c.max_activities.ensures.value) in
    let from : has_event (network_in c.self.inside) c.args.activity.from ≡ true = sym c.in-Some.ensures.known in
    let to : has_event (network_in c.self.inside) c.args.activity.to ≡ true = sym c.in-Some-event_slot.ensures.known in
    let accepted = added (network_in c.self.inside) c.args.activity from to absent (lt-leb _ _ few) in
    rw (← c.self.view_is, c.link.ensures.kept.events, same) accepted

pub returns-in_default-clause-err : goal.returns-in_default-clause-err
returns-in_default-clause-err c =
    let from : has_event (network_in c.self.inside) c.args.activity.from ≡ false = sym c.in_default.ensures.known in
    rw (c.activity_exists_or.ensures, ← c.self.view_is) (inl (add_without_from (network_in c.self.inside) c.args.activity from))

pub returns-in_default-event_slot-clause-err : goal.returns-in_default-event_slot-clause-err
returns-in_default-event_slot-clause-err c =
    let from : has_event (network_in c.self.inside) c.args.activity.from ≡ true = sym c.in-Some.ensures.known in
    let to : has_event (network_in c.self.inside) c.args.activity.to ≡ false = sym c.in_default-event_slot.ensures.known in
    rw (c.activity_exists_or-in_default-event_slot.ensures, ← c.self.view_is) (inl (add_without_to (network_in c.self.inside) c.args.activity from to))

pub returns-then-activity_count-max_activities-clause-err : goal.returns-then-activity_count-max_activities-clause-err
returns-then-activity_count-max_activities-clause-err c =
    let from : has_event (network_in c.self.inside) c.args.activity.from ≡ true = sym c.in-Some.ensures.known in
    let to : has_event (network_in c.self.inside) c.args.activity.to ≡ true = sym c.in-Some-event_slot.ensures.known in
    let count : c.activity_count.result ≡ length c.self.inside.activities.values = rw (← c.self.view_is) at c.activity_count.ensures.value in
    let many : max_activities c.self.inside.period ≤ length c.self.inside.activities.values = omega (arith, count, c.if-activity_count-max_activities.true, c.max_activities.ensures.value) in
    rw (c.activity_exists_or-then-activity_count-max_activities.ensures, ← c.self.view_is) (inl (add_to_many (network_in c.self.inside) c.args.activity from to (le-leb _ _ many)))

pub returns-in-Ok-false-clause-err : goal.returns-in-Ok-false-clause-err
returns-in-Ok-false-clause-err c =
    let there = some_from _ (sym c.in-Ok-false.ensures.added ∙ c.in-Ok-false.field-0-test) in
    rw (← c.self.view_is) (inl (add_known (network_in c.self.inside) c.args.activity there))

pub returns-in-Err-clause-err : goal.returns-in-Err-clause-err
returns-in-Err-clause-err c =
    let from : has_event (network_in c.self.inside) c.args.activity.from ≡ true = sym c.in-Some.ensures.known in
    let to : has_event (network_in c.self.inside) c.args.activity.to ≡ true = sym c.in-Some-event_slot.ensures.known in
    let count : c.activity_count.result ≡ length c.self.inside.activities.values = rw (← c.self.view_is) at c.activity_count.ensures.value in
    let few : length c.self.inside.activities.values < max_activities c.self.inside.period = omega (arith, count, c.if-activity_count-max_activities.false, c.max_activities.ensures.value) in
    rw (c.activity_exists_or-in-Err.ensures, c.in-Err.ensures.err, ← c.self.view_is) (add_without_memory (network_in c.self.inside) c.args.activity from to (lt-leb _ _ few))

-- The rest is found by search too, and named so that it is found at once.
pub invariant_of-self : goal.invariant_of-self
invariant_of-self c = rw (c.in-Ok-false.ensures.known c.in-Ok-false.field-0-test) c.self.invariant

pub returns-in-Ok-false-clause-unchanged : goal.returns-in-Ok-false-clause-unchanged
returns-in-Ok-false-clause-unchanged c = rw (← c.self.view_is, c.in-Ok-false.ensures.known c.in-Ok-false.field-0-test) refl

pub invariant_of-self-in-Err : goal.invariant_of-self-in-Err
invariant_of-self-in-Err c = rw c.in-Err.ensures.err c.self.invariant

pub returns-in-Err-clause-unchanged : goal.returns-in-Err-clause-unchanged
returns-in-Err-clause-unchanged c = rw (← c.self.view_is, c.in-Err.ensures.err) refl

pub link-requires-clause-from : goal.link-requires-clause-from
link-requires-clause-from c = sym c.in-Some.ensures.slot

pub link-requires-clause-to : goal.link-requires-clause-to
link-requires-clause-to c = sym c.in-Some-event_slot.ensures.slot

pub returns-in-Ok-false-clause-ok : goal.returns-in-Ok-false-clause-ok
returns-in-Ok-false-clause-ok c = tt

pub returns-in-Err-clause-ok : goal.returns-in-Err-clause-ok
returns-in-Err-clause-ok c = tt

pub returns-then-is_err-clause-ok : goal.returns-then-is_err-clause-ok
returns-then-is_err-clause-ok c = tt

pub returns-clause-err : goal.returns-clause-err
returns-clause-err c = tt

pub returns-clause-unchanged : goal.returns-clause-unchanged
returns-clause-unchanged c = tt
