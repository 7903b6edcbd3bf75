-- An event with another window of the period leaves an instance.
use Rattle.std.proofs.Common.{◌≡◌, Some, sym, subst}
use Rattle.pesp_base.specs.Windows.{IsWindow}
use Rattle.pesp_instance.specs.Ends.{events_of, with_window}
use Rattle.pesp_instance.specs.Stored.{network_in}
use Rattle.pesp_instance.proofs.Effects.{rewindowed_event}
use Rattle.pesp_instance.proofs.Relisted.{AreListed-same}
use Rattle.pesp_instance.proofs.instance.Instance.set_window.Goals as goal

pub rewindow-requires : goal.rewindow-requires
rewindow-requires c = record { slot = (c.args.event, sym c.in-Some.ensures.slot) }

pub invariant_of-self : goal.invariant_of-self
invariant_of-self c =
    let is = c.in-Some-new.ensures in
    let events : events_of c.rewindow.new.self.values ≡ with_window c.args.event (Some c.in-Some-new.window) (events_of c.self.inside.vertices.values) = c.rewindow.ensures.events c.args.event (sym c.in-Some.ensures.slot) in
    record {
      network = rw events (rewindowed_event (network_in c.self.inside) c.args.event (Some c.in-Some-new.window) c.self.invariant.network (subst (IsWindow c.self.inside.period) (sym is.1) is.0));
      listed = AreListed-same c.self.inside.activities.values c.self.inside.vertices.values c.rewindow.new.self.values c.rewindow.ensures.listed c.self.invariant.listed;
    }
