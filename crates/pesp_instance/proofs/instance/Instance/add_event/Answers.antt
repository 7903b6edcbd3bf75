-- One more event, within the limits and with nothing listed at it, leaves an instance.
use Rattle.std.proofs.Common.{◌≡◌, ◌<◌, true, false, None, is_some, length, refl, sym, ap, ◌∙◌, arith, inl}
use Rattle.std.proofs.lemmas.Bool.{lt-leb}
use Rattle.pesp_base.specs.Limits.{max_events}
use Rattle.pesp_base.specs.Numbered.{with_number, put_in}
use Rattle.pesp_instance.specs.Ends.{vertex_number, events_of}
use Rattle.pesp_instance.specs.Network.{has_event, new_event}
use Rattle.pesp_instance.specs.Stored.{network_in}
use Rattle.pesp_base.proofs.Tests.{none_from, some_from}
use Rattle.pesp_instance.proofs.Effects.{added_event, none_is}
use Rattle.pesp_instance.proofs.Numbers.{event_number}
use Rattle.pesp_instance.proofs.Refused.{add_known_event, added_event as accepted_event}
use Rattle.pesp_instance.proofs.Relisted.{AreListed-added}
use Rattle.pesp_instance.proofs.Vertices.{is_event, events-put_in}
use Rattle.pesp_instance.proofs.instance.Instance.add_event.Goals as goal

pub invariant_of-self : goal.invariant_of-self
invariant_of-self c =
    let its : vertex_number c.new.result ≡ c.args.event = ap event_number c.new.ensures.event in
    let nowhere : with_number vertex_number (vertex_number c.new.result) c.self.inside.vertices.values ≡ None = none_is _ (sym c.in-Ok-true.ensures.added ∙ c.in-Ok-true.field-0-test) in
    let none : is_some (with_number event_number c.args.event (events_of c.self.inside.vertices.values)) ≡ false = is_event c.args.event c.self.inside.vertices.values ∙ ap is_some (ap (λ n. with_number vertex_number n c.self.inside.vertices.values) (sym its) ∙ nowhere) in
    let count : c.event_count.result ≡ length (events_of c.self.inside.vertices.values) = rw (← c.self.view_is) at c.event_count.ensures.value in
    let few : length (events_of c.self.inside.vertices.values) < max_events c.self.inside.period = omega (arith, count, c.if-event_count-max_events.false, c.max_events.ensures.value) in
    let same : c.insert.new.self.values ≡ put_in vertex_number c.new.result c.self.inside.vertices.values = c.in-Ok-true.ensures.put c.in-Ok-true.field-0-test in
    let events : events_of c.insert.new.self.values ≡ put_in event_number (new_event c.args.event) (events_of c.self.inside.vertices.values) = ap events_of same ∙ events-put_in c.new.result c.self.inside.vertices.values ∙ ap (λ x. put_in event_number x (events_of c.self.inside.vertices.values)) c.new.ensures.event in
    record {
      network = rw events (added_event (network_in c.self.inside) c.args.event c.self.invariant.network c.get.ensures.limit (none_from _ none) few);
      listed = rw same (AreListed-added c.self.inside.activities.values c.new.result c.self.inside.vertices.values c.self.invariant.listed nowhere c.new.ensures.activities);
    }

pub returns-in-Ok-true-clause-ok : goal.returns-in-Ok-true-clause-ok
returns-in-Ok-true-clause-ok c =
    let its : vertex_number c.new.result ≡ c.args.event = ap event_number c.new.ensures.event in
    let nowhere : with_number vertex_number (vertex_number c.new.result) c.self.inside.vertices.values ≡ None = none_is _ (sym c.in-Ok-true.ensures.added ∙ c.in-Ok-true.field-0-test) in
    let none : is_some (with_number event_number c.args.event (events_of c.self.inside.vertices.values)) ≡ false = is_event c.args.event c.self.inside.vertices.values ∙ ap is_some (ap (λ n. with_number vertex_number n c.self.inside.vertices.values) (sym its) ∙ nowhere) in
    let count : c.event_count.result ≡ length (events_of c.self.inside.vertices.values) = rw (← c.self.view_is) at c.event_count.ensures.value in
    let few : length (events_of c.self.inside.vertices.values) < max_events c.self.inside.period = omega (arith, count, c.if-event_count-max_events.false, c.max_events.ensures.value) in
    let same : c.insert.new.self.values ≡ put_in vertex_number c.new.result c.self.inside.vertices.values = c.in-Ok-true.ensures.put c.in-Ok-true.field-0-test in
    let events : events_of c.insert.new.self.values ≡ put_in event_number (new_event c.args.event) (events_of c.self.inside.vertices.values) = ap events_of same ∙ events-put_in c.new.result c.self.inside.vertices.values ∙ ap (λ x. put_in event_number x (events_of c.self.inside.vertices.values)) c.new.ensures.event in
    rw (← c.self.view_is, events) (accepted_event (network_in c.self.inside) c.args.event none (lt-leb _ _ few))

pub returns-in-Ok-false-clause-err : goal.returns-in-Ok-false-clause-err
returns-in-Ok-false-clause-err c =
    let its : vertex_number c.new.result ≡ c.args.event = ap event_number c.new.ensures.event in
    let there : is_some (with_number vertex_number (vertex_number c.new.result) c.self.inside.vertices.values) ≡ true = some_from _ (sym c.in-Ok-false.ensures.added ∙ c.in-Ok-false.field-0-test) in
    let has : has_event (network_in c.self.inside) c.args.event ≡ true = is_event c.args.event c.self.inside.vertices.values ∙ ap (λ n. is_some (with_number vertex_number n c.self.inside.vertices.values)) (sym its) ∙ there in
    rw (← c.self.view_is) (inl (add_known_event (network_in c.self.inside) c.args.event has))

-- The rest is found by search too, and named so that it is found at once.
pub invariant_of-self-in-Ok-false : goal.invariant_of-self-in-Ok-false
invariant_of-self-in-Ok-false c = rw (c.in-Ok-false.ensures.known c.in-Ok-false.field-0-test) c.self.invariant

pub returns-in-Ok-false-clause-ok : goal.returns-in-Ok-false-clause-ok
returns-in-Ok-false-clause-ok c = tt

pub returns-in-Ok-false-clause-unchanged : goal.returns-in-Ok-false-clause-unchanged
returns-in-Ok-false-clause-unchanged c = rw (← c.self.view_is, c.in-Ok-false.ensures.known c.in-Ok-false.field-0-test) refl

pub invariant_of-self-in-Err : goal.invariant_of-self-in-Err
invariant_of-self-in-Err c = rw c.in-Err.ensures.err c.self.invariant

pub returns-in-Err-clause-ok : goal.returns-in-Err-clause-ok
returns-in-Err-clause-ok c = tt

pub returns-in-Err-clause-unchanged : goal.returns-in-Err-clause-unchanged
returns-in-Err-clause-unchanged c = rw (← c.self.view_is, c.in-Err.ensures.err) refl

pub returns-in-Ok-true-clause-err : goal.returns-in-Ok-true-clause-err
returns-in-Ok-true-clause-err c = tt

pub returns-in-Ok-true-clause-unchanged : goal.returns-in-Ok-true-clause-unchanged
returns-in-Ok-true-clause-unchanged c = tt
