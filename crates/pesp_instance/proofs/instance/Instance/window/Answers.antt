-- The window of an event is that of its vertex.
use Rattle.std.proofs.Common.{Some, None, sym, ap, ◌∙◌}
use Rattle.pesp_base.specs.Numbered.{with_number}
use Rattle.pesp_instance.specs.Ends.{vertex_number}
use Rattle.pesp_instance.proofs.Vertices.{window-with_number}
use Rattle.pesp_instance.proofs.instance.Instance.window.Goals as goal

pub returns-in_err-get-clause-value : goal.returns-in_err-get-clause-value
returns-in_err-get-clause-value c =
    rw (← c.self.view_is) (c.from_residual.ensures ∙ sym (window-with_number c.args.event c.self.inside.vertices.values None (c.in_err-get.ensures ∙ ap (λ n. with_number vertex_number n c.self.inside.vertices.values) c.get.ensures.value)))

pub returns-clause-value : goal.returns-clause-value
returns-clause-value c =
    rw (← c.self.view_is) (sym (window-with_number c.args.event c.self.inside.vertices.values (Some c.in_ok-get.field-0.now) (c.in_ok-get.ensures ∙ ap (λ n. with_number vertex_number n c.self.inside.vertices.values) c.get.ensures.value)))
