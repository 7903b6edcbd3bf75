-- The first activity around the event is the least that has it as an end. Without an event that no activity has as an end, there is an instance.
use Rattle.std.proofs.Common.{◌≡◌, true, [], filter, find, Some, None, refl, sym, ap, ◌∙◌, inl}
use Rattle.pesp_base.specs.Numbered.{take_out}
use Rattle.pesp_instance.specs.Ends.{vertex_number, events_of, named_by}
use Rattle.pesp_instance.specs.Network.{has_event, is_end_of}
use Rattle.pesp_instance.specs.Stored.{network_in}
use Rattle.pesp_instance.proofs.Effects.{dropped_event, find-empty, find-first}
use Rattle.pesp_instance.proofs.Listed.{AreNames-numbers_at, named_by-numbers_at}
use Rattle.pesp_instance.proofs.Numbers.{event_number}
use Rattle.pesp_instance.proofs.Relisted.{AreListed-dropped}
use Rattle.pesp_instance.proofs.Rising.{Rises-from_increasing}
use Rattle.pesp_instance.proofs.Vertices.{events-take_out}
use Rattle.pesp_instance.proofs.instance.Instance.drop_event.Goals as goal

pub invariant_of-around : goal.invariant_of-around
invariant_of-around c =
    let rises = Rises-from_increasing (λ a. a.id) c.self.inside.activities.values c.self.invariant.network.activities_rise in
    rw c.in-Some.ensures.value (AreNames-numbers_at c.args.event c.self.inside.vertices.values c.self.inside.activities.values (rw c.in-Some.ensures.value at c.in-Some.ensures.ordered) rises c.self.invariant.listed)

pub returns-in-Some-next-clause-err : goal.returns-in-Some-next-clause-err
returns-in-Some-next-clause-err c =
    let rises = Rises-from_increasing (λ a. a.id) c.self.inside.activities.values c.self.invariant.network.activities_rise in
    let all : named_by c.self.inside.activities.values c.in-Some.numbers ≡ filter (is_end_of c.args.event) c.self.inside.activities.values = ap (named_by c.self.inside.activities.values) c.in-Some.ensures.value ∙ named_by-numbers_at c.args.event c.self.inside.vertices.values c.self.inside.activities.values (rw c.in-Some.ensures.value at c.in-Some.ensures.ordered) rises c.self.invariant.listed in
    let has : has_event (network_in c.self.inside) c.args.event ≡ true = sym c.in-Some.ensures.known in
    let first : find (is_end_of c.args.event) c.self.inside.activities.values ≡ Some c.in-Some-next.activity.now = find-first c.args.event c.self.inside.activities.values c.in-Some-next.activity.now _ (sym all ∙ c.in-Some-next.ensures.steps) in
    rw (← c.self.view_is) (inl (rw (has, first) refl))

pub invariant_of-self : goal.invariant_of-self
invariant_of-self c =
    let rises = Rises-from_increasing (λ a. a.id) c.self.inside.activities.values c.self.invariant.network.activities_rise in
    let all : named_by c.self.inside.activities.values c.in-Some.numbers ≡ filter (is_end_of c.args.event) c.self.inside.activities.values = ap (named_by c.self.inside.activities.values) c.in-Some.ensures.value ∙ named_by-numbers_at c.args.event c.self.inside.vertices.values c.self.inside.activities.values (rw c.in-Some.ensures.value at c.in-Some.ensures.ordered) rises c.self.invariant.listed in
    let same : c.remove.new.self.values ≡ take_out vertex_number c.args.event c.self.inside.vertices.values = c.remove.ensures.removed ∙ ap (λ n. take_out vertex_number n c.self.inside.vertices.values) c.get.ensures.value in
    let events : events_of c.remove.new.self.values ≡ take_out event_number c.args.event (events_of c.self.inside.vertices.values) = ap events_of same ∙ events-take_out c.args.event c.self.inside.vertices.values in
    let none : filter (is_end_of c.args.event) c.self.inside.activities.values ≡ [] = sym all ∙ c.in_default-next.ensures.steps.0 in
    record {
      network = rw events (dropped_event (network_in c.self.inside) c.args.event c.self.invariant.network none);
      listed = rw same (AreListed-dropped c.self.inside.activities.values c.args.event c.self.inside.vertices.values c.self.invariant.listed none);
    }

pub returns-clause-ok : goal.returns-clause-ok
returns-clause-ok c =
    let rises = Rises-from_increasing (λ a. a.id) c.self.inside.activities.values c.self.invariant.network.activities_rise in
    let all : named_by c.self.inside.activities.values c.in-Some.numbers ≡ filter (is_end_of c.args.event) c.self.inside.activities.values = ap (named_by c.self.inside.activities.values) c.in-Some.ensures.value ∙ named_by-numbers_at c.args.event c.self.inside.vertices.values c.self.inside.activities.values (rw c.in-Some.ensures.value at c.in-Some.ensures.ordered) rises c.self.invariant.listed in
    let same : c.remove.new.self.values ≡ take_out vertex_number c.args.event c.self.inside.vertices.values = c.remove.ensures.removed ∙ ap (λ n. take_out vertex_number n c.self.inside.vertices.values) c.get.ensures.value in
    let events : events_of c.remove.new.self.values ≡ take_out event_number c.args.event (events_of c.self.inside.vertices.values) = ap events_of same ∙ events-take_out c.args.event c.self.inside.vertices.values in
    let has : has_event (network_in c.self.inside) c.args.event ≡ true = sym c.in-Some.ensures.known in
    let free : find (is_end_of c.args.event) c.self.inside.activities.values ≡ None = find-empty c.args.event c.self.inside.activities.values (sym all ∙ c.in_default-next.ensures.steps.0) in
    rw (← c.self.view_is, has, free, events) refl
