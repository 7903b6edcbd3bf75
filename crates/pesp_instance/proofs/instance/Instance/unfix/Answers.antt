-- An event without its window leaves an instance.
use Rattle.std.proofs.Common.{◌≡◌, true, false, None, Some, is_none, not, refl, sym, ap, ◌∙◌, inl}
use Rattle.pesp_instance.specs.Ends.{events_of, with_window}
use Rattle.pesp_instance.specs.Network.{has_event, window_of}
use Rattle.pesp_instance.specs.Stored.{network_in}
use Rattle.pesp_instance.proofs.Effects.{is_none-from, rewindowed_event}
use Rattle.pesp_instance.proofs.Relisted.{AreListed-same}
use Rattle.pesp_instance.proofs.Vertices.{window-with_number}
use Rattle.pesp_instance.proofs.instance.Instance.unfix.Goals as goal

pub value_at-requires : goal.value_at-requires
value_at-requires c = record { slot = (c.args.event, sym c.in-Some.ensures.slot) }

pub returns-then-is_none-clause-err : goal.returns-then-is_none-clause-err
returns-then-is_none-clause-err c =
    let has : has_event (network_in c.self.inside) c.args.event ≡ true = sym c.in-Some.ensures.known in
    let is : window_of (network_in c.self.inside) c.args.event ≡ c.value_at.result.now.event.window = window-with_number c.args.event c.self.inside.vertices.values (Some c.value_at.result.now) (sym (c.value_at.ensures c.args.event (sym c.in-Some.ensures.slot))) in
    let none : is_none (window_of (network_in c.self.inside) c.args.event) ≡ true = ap is_none is ∙ is_none-from _ false (c.is_none.ensures ∙ ap not c.if-is_none.true) in
    rw (← c.self.view_is) (inl (rw (has, none) refl))

pub rewindow-requires : goal.rewindow-requires
rewindow-requires c = record { slot = (c.args.event, sym c.in-Some.ensures.slot) }

pub invariant_of-self : goal.invariant_of-self
invariant_of-self c =
    let events : events_of c.rewindow.new.self.values ≡ with_window c.args.event None (events_of c.self.inside.vertices.values) = c.rewindow.ensures.events c.args.event (sym c.in-Some.ensures.slot) in
    record {
      network = rw events (rewindowed_event (network_in c.self.inside) c.args.event None c.self.invariant.network tt);
      listed = AreListed-same c.self.inside.activities.values c.self.inside.vertices.values c.rewindow.new.self.values c.rewindow.ensures.listed c.self.invariant.listed;
    }

pub returns-clause-ok : goal.returns-clause-ok
returns-clause-ok c =
    let has : has_event (network_in c.self.inside) c.args.event ≡ true = sym c.in-Some.ensures.known in
    let is : window_of (network_in c.self.inside) c.args.event ≡ c.value_at.result.now.event.window = window-with_number c.args.event c.self.inside.vertices.values (Some c.value_at.result.now) (sym (c.value_at.ensures c.args.event (sym c.in-Some.ensures.slot))) in
    let some : is_none (window_of (network_in c.self.inside) c.args.event) ≡ false = ap is_none is ∙ is_none-from _ true (c.is_none.ensures ∙ ap not c.if-is_none.false) in
    let events : events_of c.rewindow.new.self.values ≡ with_window c.args.event None (events_of c.self.inside.vertices.values) = c.rewindow.ensures.events c.args.event (sym c.in-Some.ensures.slot) in
    rw (← c.self.view_is, has, some, events) refl
