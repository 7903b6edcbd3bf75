-- Each event that stands at another time is put after the violations before it.
use Rattle.std.proofs.Common.{◌≡◌, true, false, [], ◌∷◌, ◌++◌, IsSome, append_assoc, refl, sym, ap, ◌∙◌, rules}
use Rattle.pesp_tension.specs.declared.lists.Violation.TheVariants as of_
use Rattle.pesp_tension.specs.Timetables.{time_of}
use Rattle.pesp_tension.specs.Answers.{agrees, moved_among}
use Rattle.pesp_tension.proofs.Timed.{events_timed, head_of, tail_of}
use Rattle.pesp_tension.proofs.answers.list_moved.Goals as goal

pub loop-event-init : goal.loop-event-init
loop-event-init c =
    let all = c.into_iter-event-iterator.ensures.into_iter_gives ∙ c.events-event-items.ensures.value in
    record {
      can_next = tt;
      is_finite = tt;
      left = rw all refl;
      timed = rw all (events_timed c.args.timetable.now (c.args.instance.now).events c.requires);
    }

pub loop-event-preserved-in-Continue-1 : goal.loop-event-preserved-in-Continue-1
loop-event-preserved-in-Continue-1 c =
    let unmet : agrees c.args.timetable.now c.in-Some.event.now ≡ false = search rules in
    let listed : moved_among c.args.timetable.now (c.in-Some.event.now ∷ c.next.new.self) ≡ of_.Event c.in-Some.event.now.id ∷ moved_among c.args.timetable.now c.next.new.self = rw unmet refl in
    let pushed : c.push.new.self.items ≡ c.loop-event.violations.items ++ of_.Event c.in-Some.event.now.id ∷ [] = search rules in
    record {
      can_next = tt;
      is_finite = tt;
      left =
          ap (λ items. items ++ moved_among c.args.timetable.now c.next.new.self) pushed ∙ append_assoc c.loop-event.violations.items _ _
          ∙ sym (ap (λ rest. c.loop-event.violations.items ++ rest) listed)
          ∙ sym (ap (λ rest. c.loop-event.violations.items ++ moved_among c.args.timetable.now rest) c.in-Some.ensures.steps) ∙ c.loop-event.invariant.left;
      timed = tail_of (λ e. IsSome (time_of c.args.timetable.now e.id)) c.in-Some.event.now c.next.new.self (rw c.in-Some.ensures.steps at c.loop-event.invariant.timed);
    }

pub loop-event-preserved : goal.loop-event-preserved
loop-event-preserved c =
    let met : agrees c.args.timetable.now c.in-Some.event.now ≡ true = search rules in
    let passed : moved_among c.args.timetable.now (c.in-Some.event.now ∷ c.next.new.self) ≡ moved_among c.args.timetable.now c.next.new.self = rw met refl in
    record {
      can_next = tt;
      is_finite = tt;
      left =
          sym (ap (λ rest. c.loop-event.violations.items ++ rest) passed)
          ∙ sym (ap (λ rest. c.loop-event.violations.items ++ moved_among c.args.timetable.now rest) c.in-Some.ensures.steps) ∙ c.loop-event.invariant.left;
      timed = tail_of (λ e. IsSome (time_of c.args.timetable.now e.id)) c.in-Some.event.now c.next.new.self (rw c.in-Some.ensures.steps at c.loop-event.invariant.timed);
    }

pub is_in_window-requires : goal.is_in_window-requires
is_in_window-requires c =
    head_of (λ e. IsSome (time_of c.args.timetable.now e.id)) c.in-Some.event.now c.next.new.self (rw c.in-Some.ensures.steps at c.loop-event.invariant.timed)
