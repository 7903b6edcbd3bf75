-- An event more is done.
use Rattle.std.proofs.Common.{◌∙◌, sym, Some}
use Rattle.std.specs.List.{Contains}
use Rattle.std.proofs.lemmas.List.Elements.{All-head, All-tail, All-contains_itself}
use Rattle.pesp_instance.specs.declared.event.Event.{Event}
use Rattle.pesp_instance.proofs.Rising.{Rises-from_increasing}
use Rattle.pesp_domains.proofs.Opened.{event_found}
use Rattle.pesp_counts_supports.specs.Counts.{has_at}
use Rattle.pesp_counts.specs.Keeping.{rows_of}
use Rattle.pesp_counts.proofs.Bridge.{place_is}
use Rattle.pesp_counts.proofs.Remade.{agrees_window, state_first, state_more}
use Rattle.pesp_counts_supports.proofs.Taken.{kept_none, kept_then, taken_none, taken_then}
use Rattle.pesp_counts.proofs.keeper.limits.limit_windows.Goals as goal

pub loop-event-init : goal.loop-event-init
loop-event-init c =
    let I = c.args.instance.now in
    let all = c.into_iter-event-iterator.ensures.into_iter_gives ∙ c.events-event-items.ensures.value in
    record {
      can_next = tt;
      is_finite = tt;
      among = rw all (All-contains_itself I.events);
      rises = rw all (Rises-from_increasing (λ (x : Event). x.id) I.events c.events-event-items.ensures.network.events_rise);
      state = rw all (state_first I c.args.links.now c.args.supports.now c.requires.fits c.requires.full);
      taken = taken_none c.args.supports.now;
      keeps = kept_none c.args.supports.now;
    }

pub loop-event-preserved-in-Some-event : goal.loop-event-preserved-in-Some-event
loop-event-preserved-in-Some-event c =
    let I = c.args.instance.now in
    let links = c.args.links.now in
    let network = c.events-event-items.ensures.network in
    let x = c.in-Some.event.now in
    let rest = c.next.new.self in
    let among = rw c.in-Some.ensures.steps at c.loop-event.invariant.among in
    let rises = rw c.in-Some.ensures.steps at c.loop-event.invariant.rises in
    let state = rw c.in-Some.ensures.steps at c.loop-event.invariant.state in
    let is : Contains I.events x = All-head (Contains I.events) x rest among in
    let agrees = agrees_window I links x c.in-Some-event.place (has_at c.loop-event.supports.rows) (has_at c.limit.new.supports.rows) network is c.requires.fits.stand (sym c.event.ensures ∙ c.in-Some-event.is) c.limit.ensures.rows in
    record {
      can_next = tt;
      is_finite = tt;
      among = All-tail (Contains I.events) x rest among;
      rises = rises.1;
      state = state_more I network x rest (rows_of links c.loop-event.supports) (rows_of links c.limit.new.supports) is rises agrees state;
      taken = taken_then c.args.supports.now c.loop-event.supports c.limit.new.supports c.loop-event.invariant.taken c.limit.ensures.taken;
      keeps = kept_then c.args.supports.now c.loop-event.supports c.limit.new.supports c.loop-event.invariant.keeps c.limit.ensures.keeps;
    }

pub loop-event-preserved : goal.loop-event-preserved
loop-event-preserved c =
    let I = c.args.instance.now in
    let x = c.in-Some.event.now in
    let among = rw c.in-Some.ensures.steps at c.loop-event.invariant.among in
    let is : Contains I.events x = All-head (Contains I.events) x c.next.new.self among in
    let p = place_is I c.args.links.now c.requires.fits.stand x.id (event_found I.events x is) in
    absurd (c.in_default.not-Some p.0 (◌∙◌ {c = Some p.0} c.event.ensures p.1))
