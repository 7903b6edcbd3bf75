-- The labels that are compared stand at the indices of both ends.
use Rattle.std.proofs.Common.{sym, ◌∙◌}
use Rattle.std.proofs.lemmas.Bool.{eqb-true}
use Rattle.pesp_search.proofs.Labels.{label_at}
use Rattle.pesp_search.proofs.parts.has_one_label.Goals as goal

pub returns-in-Some-Some : goal.returns-in-Some-Some
returns-in-Some-Some c = λ I ok is same.
    label_at I c.args.labels.now c.args.events.now c.in-Some-Some.from c.args.activity.now.from ok is c.requires c.in-Some-Some.ensures.0 c.in-Some-Some.ensures.1
    ∙ eqb-true _ _ same
    ∙ sym (label_at I c.args.labels.now c.args.events.now c.in-Some-Some.to c.args.activity.now.to ok is c.requires c.in-Some-Some.ensures'.0 c.in-Some-Some.ensures'.1)
