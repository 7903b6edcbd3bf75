-- Marks by labels that were checked are those of the first events of parts.
use Rattle.std.proofs.Common.{length, ap, subst, ◌∙◌}
use Rattle.pesp_search.specs.Parts.{AreAgreed}
use Rattle.pesp_search.proofs.Labels.{told_by_marks}
use Rattle.pesp_search.proofs.parts.least_of_parts.Goals as goal

pub returns : goal.returns
returns c =
    told_by_marks c.args.instance.now c.in_ok-labels.labels.items c.are_agreed-are_agreed.result c.first_of_labels.result c.requires.network
    (c.in_ok-labels.ensures ∙ ap length c.requires.events)
    (λ yes. subst (AreAgreed c.args.instance.now) c.deref.ensures.value (c.are_agreed-are_agreed.ensures yes))
    (rw (ap length c.requires.events) at c.first_of_labels.ensures.long)
    (rw (c.deref-2.ensures.value, ap length c.requires.events) at c.first_of_labels.ensures.first)
