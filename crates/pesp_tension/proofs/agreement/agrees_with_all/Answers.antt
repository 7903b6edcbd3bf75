-- Each event is looked at.
use Rattle.std.proofs.Common.{◌≡◌, IsSome, IsTrue, ◌∙◌, true, rules}
use Rattle.std.proofs.lemmas.List.Elements.{All-head}
use Rattle.pesp_tension.specs.Answers.{agrees}
use Rattle.pesp_tension.specs.Timetables.{time_of}
use Rattle.pesp_tension.proofs.Timed.{events_timed, tail_of}
use Rattle.pesp_tension.proofs.Walks.{walk_begins, walk_goes_on}
use Rattle.pesp_tension.proofs.agreement.agrees_with_all.Goals as goal

pub loop-event-init : goal.loop-event-init
loop-event-init c =
    let all = c.into_iter-event-iterator.ensures.into_iter_gives ∙ c.events-event-items.ensures.value in
    record {
      can_next = tt;
      is_finite = tt;
      left = walk_begins (λ x. IsTrue (agrees c.args.timetable.now x)) (c.args.instance.now).events _ all;
      timed = rw all (events_timed c.args.timetable.now (c.args.instance.now).events c.requires);
    }

pub is_in_window-requires : goal.is_in_window-requires
is_in_window-requires c =
    All-head (λ e. IsSome (time_of c.args.timetable.now e.id)) c.in-Some.event.now c.next.new.self (rw c.in-Some.ensures.steps at c.loop-event.invariant.timed)

pub loop-event-preserved : goal.loop-event-preserved
loop-event-preserved c =
    let met : agrees c.args.timetable.now c.in-Some.event.now ≡ true = search rules in
    record {
      can_next = tt;
      is_finite = tt;
      left = walk_goes_on (λ x. IsTrue (agrees c.args.timetable.now x)) (c.args.instance.now).events c.loop-event.event-iterator c.next.new.self c.in-Some.event.now c.loop-event.invariant.left c.in-Some.ensures.steps met;
      timed = tail_of (λ e. IsSome (time_of c.args.timetable.now e.id)) c.in-Some.event.now c.next.new.self (rw c.in-Some.ensures.steps at c.loop-event.invariant.timed);
    }
