-- An event is there where its vertex is.
use Rattle.std.proofs.Common.{is_some, sym, ap, ◌∙◌}
use Rattle.pesp_base.specs.Numbered.{with_number}
use Rattle.pesp_instance.specs.Ends.{vertex_number}
use Rattle.pesp_instance.proofs.Vertices.{is_event}
use Rattle.pesp_instance.proofs.instance.Instance.has_event.Goals as goal

pub returns-clause-value : goal.returns-clause-value
returns-clause-value c =
    rw (← c.self.view_is) (c.contains.ensures ∙ ap (λ n. is_some (with_number vertex_number n c.self.inside.vertices.values)) c.get.ensures.value ∙ sym (is_event c.args.event c.self.inside.vertices.values))
