-- Each activity is looked at; the first one that is not met shows that not all are.
use Rattle.std.proofs.Common.{◌≡◌, IsTrue, sym, ◌∙◌, true, false, rules}
use Rattle.std.proofs.lemmas.Bool.{false≢true}
use Rattle.pesp_tension.specs.Answers.{IsTimed, meets}
use Rattle.pesp_tension.proofs.Timed.{ends_timed, head_of, tail_of}
use Rattle.pesp_tension.proofs.Walks.{walk_begins, walk_fails, walk_goes_on}
use Rattle.pesp_tension.proofs.agreement.meets_all.Goals as goal

pub loop-activity-init : goal.loop-activity-init
loop-activity-init c =
    let all = c.into_iter-activity-iterator.ensures.into_iter_gives ∙ c.activities-activity-items.ensures.value in
    record {
      can_next = tt;
      is_finite = tt;
      left = walk_begins (λ a. IsTrue (meets c.args.timetable.now a)) c.args.instance.now.activities _ all;
      timed = rw all (ends_timed c.args.instance.now c.args.timetable.now c.activities-activity-items.ensures.network c.requires);
    }

pub is_met-requires : goal.is_met-requires
is_met-requires c =
    head_of (IsTimed c.args.timetable.now) c.in-Some.activity.now c.next.new.self (rw c.in-Some.ensures.steps at c.loop-activity.invariant.timed)

pub returns-then-not-is_met : goal.returns-then-not-is_met
returns-then-not-is_met c =
    let unmet : meets c.args.timetable.now c.in-Some.activity.now ≡ false = search rules in (
      λ is. absurd (false≢true is),
      λ all. absurd (walk_fails (λ a. IsTrue (meets c.args.timetable.now a)) c.args.instance.now.activities c.loop-activity.activity-iterator c.next.new.self c.in-Some.activity.now c.loop-activity.invariant.left c.in-Some.ensures.steps (λ is. false≢true (sym unmet ∙ is)) all),
    )

pub loop-activity-preserved : goal.loop-activity-preserved
loop-activity-preserved c =
    let met : meets c.args.timetable.now c.in-Some.activity.now ≡ true = search rules in
    record {
      can_next = tt;
      is_finite = tt;
      left = walk_goes_on (λ a. IsTrue (meets c.args.timetable.now a)) c.args.instance.now.activities c.loop-activity.activity-iterator c.next.new.self c.in-Some.activity.now c.loop-activity.invariant.left c.in-Some.ensures.steps met;
      timed = tail_of (IsTimed c.args.timetable.now) c.in-Some.activity.now c.next.new.self (rw c.in-Some.ensures.steps at c.loop-activity.invariant.timed);
    }
