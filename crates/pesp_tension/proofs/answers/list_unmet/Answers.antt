-- Each activity that is not met is put after the violations before it.
use Rattle.std.proofs.Common.{◌≡◌, true, false, [], ◌∷◌, ◌++◌, append_assoc, refl, sym, ap, ◌∙◌, rules}
use Rattle.pesp_tension.specs.declared.lists.Violation.TheVariants as of_
use Rattle.pesp_tension.specs.Answers.{IsTimed, meets, unmet_among}
use Rattle.pesp_tension.proofs.Timed.{ends_timed, head_of, tail_of}
use Rattle.pesp_tension.proofs.answers.list_unmet.Goals as goal

pub loop-activity-init : goal.loop-activity-init
loop-activity-init c =
    let all = c.into_iter-activity-iterator.ensures.into_iter_gives ∙ c.activities-activity-items.ensures.value in
    record {
      can_next = tt;
      is_finite = tt;
      left = rw all refl;
      timed = rw all (ends_timed c.args.instance.now c.args.timetable.now c.activities-activity-items.ensures.network c.requires);
    }

pub loop-activity-preserved-in-Continue-1 : goal.loop-activity-preserved-in-Continue-1
loop-activity-preserved-in-Continue-1 c =
    let unmet : meets c.args.timetable.now c.in-Some.activity.now ≡ false = search rules in
    let listed : unmet_among c.args.timetable.now (c.in-Some.activity.now ∷ c.next.new.self) ≡ of_.Activity c.in-Some.activity.now.id ∷ unmet_among c.args.timetable.now c.next.new.self = rw unmet refl in
    let pushed : c.push.new.self.items ≡ c.loop-activity.violations.items ++ of_.Activity c.in-Some.activity.now.id ∷ [] = search rules in
    record {
      can_next = tt;
      is_finite = tt;
      left =
          ap (λ items. items ++ unmet_among c.args.timetable.now c.next.new.self) pushed ∙ append_assoc c.loop-activity.violations.items _ _
          ∙ sym (ap (λ rest. c.loop-activity.violations.items ++ rest) listed)
          ∙ sym (ap (λ rest. c.loop-activity.violations.items ++ unmet_among c.args.timetable.now rest) c.in-Some.ensures.steps) ∙ c.loop-activity.invariant.left;
      timed = tail_of (IsTimed c.args.timetable.now) c.in-Some.activity.now c.next.new.self (rw c.in-Some.ensures.steps at c.loop-activity.invariant.timed);
    }

pub loop-activity-preserved : goal.loop-activity-preserved
loop-activity-preserved c =
    let met : meets c.args.timetable.now c.in-Some.activity.now ≡ true = search rules in
    let passed : unmet_among c.args.timetable.now (c.in-Some.activity.now ∷ c.next.new.self) ≡ unmet_among c.args.timetable.now c.next.new.self = rw met refl in
    record {
      can_next = tt;
      is_finite = tt;
      left =
          sym (ap (λ rest. c.loop-activity.violations.items ++ rest) passed)
          ∙ sym (ap (λ rest. c.loop-activity.violations.items ++ unmet_among c.args.timetable.now rest) c.in-Some.ensures.steps) ∙ c.loop-activity.invariant.left;
      timed = tail_of (IsTimed c.args.timetable.now) c.in-Some.activity.now c.next.new.self (rw c.in-Some.ensures.steps at c.loop-activity.invariant.timed);
    }

pub is_met-requires : goal.is_met-requires
is_met-requires c =
    head_of (IsTimed c.args.timetable.now) c.in-Some.activity.now c.next.new.self (rw c.in-Some.ensures.steps at c.loop-activity.invariant.timed)
