-- There are as many events as vertices.
use Rattle.std.proofs.Common.{sym, ◌∙◌}
use Rattle.std.proofs.lemmas.List.{length-map}
use Rattle.pesp_instance.proofs.instance.Instance.event_count.Goals as goal

pub returns-clause-value : goal.returns-clause-value
returns-clause-value c = rw (← c.self.view_is) (c.len.ensures ∙ sym (length-map c.self.inside.vertices.values (λ x. x.event)))
