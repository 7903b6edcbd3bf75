-- Each end counts where it is new, and a loop's once.
use Rattle.std.proofs.Common.{◌≡◌, ◌∙◌, sym, length}
use Rattle.std.proofs.lemmas.Bool.{not-true, not-false}
use Rattle.pesplib_reader.specs.Reading.{with_event}
use Rattle.pesplib_reader.proofs.InstanceLemmas.{count_both_known, count_both_new, count_first_known, count_first_new, count_loop}
use Rattle.pesplib_reader.proofs.activities.count_with_ends.Goals as goal
use Rattle.pesplib_reader.proofs.activities.count_with_ends.Goals.{then-not-has_event, else-not-has_event, else-ne-via-then-ne+else-not-has_event-2, else-ne-via-else-ne}

pub returns-then-not-has_event-2 : goal.returns-then-not-has_event-2
returns-then-not-has_event-2 c =
    let first : c.if-not-has_event.count ≡ length (with_event c.args.instance.now c.args.activity.now.from).events =
    elim c.if-not-has_event.branch [
      | then-not-has_event w ↦ w.count-is ∙ count_first_new c.args.instance.now c.args.activity.now c.event_count-count.result c.event_count-count.ensures.value (sym c.has_event.ensures.value ∙ w.if-not-has_event.true)
      | else-not-has_event w ↦ w.count-is ∙ count_first_known c.args.instance.now c.args.activity.now c.event_count-count.result c.event_count-count.ensures.value (sym c.has_event.ensures.value ∙ w.if-not-has_event.false)
    ] in
    count_both_new c.args.instance.now c.args.activity.now c.if-not-has_event.count first (not-true _ (sym c.ne.ensures ∙ c.if-ne.true)) (sym c.has_event-then-ne.ensures.value ∙ c.if-not-has_event-2.true)

pub returns-else-ne : goal.returns-else-ne
returns-else-ne c =
    let first : c.if-not-has_event.count ≡ length (with_event c.args.instance.now c.args.activity.now.from).events =
    elim c.if-not-has_event.branch [
      | then-not-has_event w ↦ w.count-is ∙ count_first_new c.args.instance.now c.args.activity.now c.event_count-count.result c.event_count-count.ensures.value (sym c.has_event.ensures.value ∙ w.if-not-has_event.true)
      | else-not-has_event w ↦ w.count-is ∙ count_first_known c.args.instance.now c.args.activity.now c.event_count-count.result c.event_count-count.ensures.value (sym c.has_event.ensures.value ∙ w.if-not-has_event.false)
    ] in
    elim c.else-ne.branch [
      | else-ne-via-then-ne+else-not-has_event-2 w ↦ count_both_known c.args.instance.now c.args.activity.now c.if-not-has_event.count first (sym w.has_event-then-ne.ensures.value ∙ w.if-not-has_event-2.false)
      | else-ne-via-else-ne w ↦ count_loop c.args.instance.now c.args.activity.now c.if-not-has_event.count first (not-false _ (sym c.ne.ensures ∙ w.if-ne.false))
    ]
