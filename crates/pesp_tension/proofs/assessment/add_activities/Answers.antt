-- What each activity answers is put after the answers of those before it.
use Rattle.std.proofs.Common.{◌≡◌, ◌+◌, not, List, [], ◌∷◌, ◌++◌, map, filter, sum_by, append_assoc, add_assoc, arith, refl, sym, ap, ◌∙◌}
use Rattle.std.proofs.lemmas.List.{map-append}
use Rattle.std.proofs.lemmas.List.Elements.{filter-append}
use Rattle.std.proofs.lemmas.List.Sums.{sum_by-cons}
use Rattle.pesp_base.specs.declared.activity.Activity.{Activity}
use Rattle.pesp_tension.specs.declared.lists.Violation.TheVariants as of_
use Rattle.pesp_tension.specs.Answers.{IsTimed, cost_in, meets, unmet_among}
use Rattle.pesp_tension.specs.Timetables.{Times}
use Rattle.pesp_tension.proofs.Timed.{ends_timed, head_of, tail_of}
use Rattle.pesp_tension.proofs.assessment.add_activities.Goals as goal

unmet_first : (m : Times) (a : Activity) (rest : List Activity) → unmet_among m (a ∷ rest) ≡ unmet_among m (a ∷ []) ++ unmet_among m rest
unmet_first m a rest =
    ap (map (λ (b : Activity). of_.Activity b.id)) (filter-append (λ b. not (meets m b)) (a ∷ []) rest)
    ∙ map-append (λ (b : Activity). of_.Activity b.id) (filter (λ b. not (meets m b)) (a ∷ [])) (filter (λ b. not (meets m b)) rest)

pub loop-activity-init : goal.loop-activity-init
loop-activity-init c =
    let all = c.into_iter-activity-iterator.ensures.into_iter_gives ∙ c.activities-activity-items.ensures.value in
    let few = c.activities-activity-items.ensures.network.few_activities in
    record {
      can_next = tt;
      is_finite = tt;
      tensions = rw all refl;
      violations = rw all refl;
      cost = rw all refl;
      small = rw all (omega (arith, few, c.requires.cost));
      timed = rw all (ends_timed c.args.instance.now c.args.timetable.now c.activities-activity-items.ensures.network c.requires.timed);
    }

pub loop-activity-preserved : goal.loop-activity-preserved
loop-activity-preserved c =
    let m = c.args.timetable.now in
    let a = c.in-Some.activity.now in
    let rest = c.next.new.self in
    let small = rw c.in-Some.ensures.steps at c.loop-activity.invariant.small in
    record {
      can_next = tt;
      is_finite = tt;
      tensions = rw (c.in_ok-add_activity.ensures.tensions, append_assoc) (rw c.in-Some.ensures.steps at c.loop-activity.invariant.tensions);
      violations =
          rw (c.in_ok-add_activity.ensures.violations, append_assoc)
          (sym (ap (λ list. c.loop-activity.assessment.violations.items ++ list) (unmet_first m a rest)) ∙ (rw c.in-Some.ensures.steps at c.loop-activity.invariant.violations));
      cost =
          rw c.in_ok-add_activity.ensures.cost
          (add_assoc c.loop-activity.assessment.cost (cost_in m a) (sum_by (cost_in m) rest)
          ∙ sym (ap (λ n. c.loop-activity.assessment.cost + n) (sum_by-cons (cost_in m) a rest)) ∙ (rw c.in-Some.ensures.steps at c.loop-activity.invariant.cost));
      small = omega (arith, small, c.in_ok-add_activity.ensures.small);
      timed = tail_of (IsTimed m) a rest (rw c.in-Some.ensures.steps at c.loop-activity.invariant.timed);
    }

pub add_activity-requires-clause-timed : goal.add_activity-requires-clause-timed
add_activity-requires-clause-timed c =
    head_of (IsTimed c.args.timetable.now) c.in-Some.activity.now c.next.new.self (rw c.in-Some.ensures.steps at c.loop-activity.invariant.timed)
