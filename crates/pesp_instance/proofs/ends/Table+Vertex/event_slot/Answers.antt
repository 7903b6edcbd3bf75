-- An event is there where its vertex is.
use Rattle.std.proofs.Common.{is_some, sym, ap, ◌∙◌}
use Rattle.pesp_base.specs.Numbered.{with_number}
use Rattle.pesp_instance.specs.Ends.{vertex_number}
use Rattle.pesp_instance.proofs.Vertices.{is_event}
use Rattle.pesp_instance.proofs.ends.Table+Vertex.event_slot.Goals as goal

pub returns-clause-known : goal.returns-clause-known
returns-clause-known c =
    c.slot.ensures.present ∙ ap (λ n. is_some (with_number vertex_number n c.args.self.now.values)) c.get.ensures.value ∙ sym (is_event c.args.event c.args.self.now.values)
