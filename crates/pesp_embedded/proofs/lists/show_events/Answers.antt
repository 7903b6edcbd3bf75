-- There are as many numbers as events.
use Rattle.std.proofs.Common.{◌∙◌, ap, length, sym}
use Rattle.std.proofs.lemmas.List.{length-map}
use Rattle.pesp_instance.specs.Network.{Network}
use Rattle.pesp_embedded.specs.Numbers.{told_done}
use Rattle.pesp_embedded.proofs.lists.show_events.Goals as goal

pub returns : goal.returns
returns c = record {
  shown = rw c.instance-instance.ensures at c.put_events.ensures;
  tells = c.ended.ensures ∙ ap told_done (c.event_count.ensures.value ∙ ap (λ (I : Network). length I.events) c.instance-instance.ensures ∙ sym (length-map c.args.bench.now.instance.events (λ e. e.id)));
}
