-- Without an activity, and nothing listed of it, there is an instance.
use Rattle.std.proofs.Common.{◌≡◌, Some, sym, ap, ◌∙◌}
use Rattle.pesp_base.specs.Numbered.{with_number, take_out}
use Rattle.pesp_instance.specs.Stored.{network_in}
use Rattle.pesp_instance.proofs.Effects.{dropped_activity}
use Rattle.pesp_instance.proofs.Relisted.{AreListed-take_out}
use Rattle.pesp_instance.proofs.instance.Instance.drop_activity.Goals as goal

pub invariant_of-self : goal.invariant_of-self
invariant_of-self c = rw c.in_default.ensures.missing c.self.invariant

pub invariant_of-self-2 : goal.invariant_of-self-2
invariant_of-self-2 c =
    let is : with_number (λ x. x.id) c.args.id c.self.inside.activities.values ≡ Some c.in-Some.activity = rw c.get.ensures.value at (sym c.in-Some.ensures.value) in
    let same : c.remove.new.self.values ≡ take_out (λ x. x.id) c.args.id c.self.inside.activities.values = c.remove.ensures.removed ∙ ap (λ n. take_out (λ x. x.id) n c.self.inside.activities.values) c.get.ensures.value in
    rw same (record {
      network = rw c.unlink.ensures.kept.events (dropped_activity (network_in c.self.inside) c.args.id c.self.invariant.network);
      listed = AreListed-take_out c.self.inside.activities.values c.self.inside.vertices.values c.unlink.new.self.values c.args.id c.in-Some.activity c.self.invariant.listed is c.unlink.ensures.listed;
    })
