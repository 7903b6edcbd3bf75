-- There are as many numbers as events.
use Rattle.std.proofs.Common.{◌∙◌, ap, sym}
use Rattle.std.proofs.lemmas.List.{length-map}
use Rattle.pesp_instance.specs.Network.{event_ids}
use Rattle.pesp_embedded.specs.Numbers.{time_or_none, told_done}
use Rattle.pesp_embedded.proofs.lists.show_timetable.Goals as goal

pub returns : goal.returns
returns c =
    let I = c.args.instance.now in
    record {
      shown = c.put_times.ensures;
      tells = c.ended.ensures ∙ ap told_done (c.event_count.ensures.value ∙ sym (length-map (event_ids I) (time_or_none c.args.times.now) ∙ length-map I.events (λ e. e.id)));
    }
