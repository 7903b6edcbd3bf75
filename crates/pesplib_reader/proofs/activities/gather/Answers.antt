-- Each end is added in turn, and the activity put behind the others.
use Rattle.std.proofs.Common.{◌≡◌, sym, ap, ◌∙◌}
use Rattle.pesp_instance.specs.Network.{Network}
use Rattle.pesp_instance.proofs.Effects.{on_ok}
use Rattle.pesplib_reader.specs.Reading.{with_event}
use Rattle.pesplib_reader.proofs.activities.gather.Goals as goal

pub returns-clause-ends : goal.returns-clause-ends
returns-clause-ends c is =
    let first : c.add_event.new.instance ≡ with_event c.args.instance.now c.args.activity.from = on_ok c.add_event.result c.if-is_err.ensures.value c.add_event.ensures.ok in
    let second : c.add_event-2.new.instance ≡ with_event c.add_event.new.instance c.args.activity.to = on_ok c.add_event-2.result c.if-is_err-2.ensures.value c.add_event-2.ensures.ok in
    second ∙ ap (λ (I : Network). with_event I c.args.activity.to) first

pub returns-clause-gathered : goal.returns-clause-gathered
returns-clause-gathered c is = rw (sym c.is_ok.ensures.value ∙ is) at c.push.ensures.items
