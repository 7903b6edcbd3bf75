-- Each activity that was reached has its place.
use Rattle.std.proofs.Common.{◌≡◌, List, length, ◌++◌}
use Rattle.pesp_base.specs.declared.activity.Activity.{Activity}
use Rattle.pesp_counts.specs.Keeping.{AreFor}
use Rattle.pesp_counts.proofs.keeper.counted.house_activities.Given as goal

abbrev pub invariant-loop-activity : goal.invariant-loop-activity
invariant-loop-activity l = record {
  can_next : (goal.iterator-loop-activity).can_next l.activity-iterator;
  is_finite : (goal.iterator-loop-activity).is_finite l.activity-iterator;
  done : (housed : List Activity) × (housed ++ l.activity-iterator ≡ l.instance.activities) × AreFor (record { period = l.instance.period; events = l.instance.events; activities = housed }) l.links l.supports;
  period : l.supports.period ≡ l.fn.supports.period;
  rows : length l.supports.rows ≡ length l.fn.supports.rows;
}
