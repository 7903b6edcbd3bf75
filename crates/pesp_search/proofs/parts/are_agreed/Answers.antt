-- Each activity is looked at.
use Rattle.std.proofs.Common.{◌≡◌, ◌∙◌}
use Rattle.pesp_tension.proofs.Walks.{walk_begins, walk_goes_on}
use Rattle.pesp_search.specs.Paths.{at}
use Rattle.pesp_search.proofs.parts.are_agreed.Goals as goal

pub loop-activity-init : goal.loop-activity-init
loop-activity-init c =
    record {
      can_next = tt;
      is_finite = tt;
      left = walk_begins (λ a. at c.args.instance.now c.args.labels.now a.from ≡ at c.args.instance.now c.args.labels.now a.to) (c.args.instance.now).activities _ (c.into_iter-activity-iterator.ensures.into_iter_gives ∙ c.activities-activity-items.ensures.value);
    }

pub loop-activity-preserved : goal.loop-activity-preserved
loop-activity-preserved c =
    let one : at c.args.instance.now c.args.labels.now c.in-Some.activity.now.from ≡ at c.args.instance.now c.args.labels.now c.in-Some.activity.now.to =
    c.has_one_label.ensures c.args.instance.now c.activities-activity-items.ensures.network c.requires.events c.if-not-has_one_label.false
    in
    record {
      can_next = tt;
      is_finite = tt;
      left = walk_goes_on (λ a. at c.args.instance.now c.args.labels.now a.from ≡ at c.args.instance.now c.args.labels.now a.to) (c.args.instance.now).activities c.loop-activity.activity-iterator c.next.new.self c.in-Some.activity.now c.loop-activity.invariant.left c.in-Some.ensures.steps one;
    }
