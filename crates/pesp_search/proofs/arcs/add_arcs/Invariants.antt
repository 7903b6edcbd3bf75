-- The activities before this one have their arcs, and nothing else is changed.
use Rattle.std.proofs.Common.{◌≡◌, List, ◌++◌, All}
use Rattle.std.specs.List.{Contains}
use Rattle.pesp_base.specs.declared.activity.Activity.{Activity}
use Rattle.pesp_search.specs.Arcs.{AreArcsOf}
use Rattle.pesp_search.proofs.arcs.add_arcs.Given as goal

abbrev pub invariant-loop-activity : goal.invariant-loop-activity
invariant-loop-activity l = record {
  can_next : (goal.iterator-loop-activity).can_next l.activity-iterator;
  is_finite : (goal.iterator-loop-activity).is_finite l.activity-iterator;
  among : All (Contains l.instance.activities) l.activity-iterator;
  done : (front : List Activity) × (front ++ l.activity-iterator ≡ l.instance.activities) × AreArcsOf l.events front l.network.arcs;
  period : l.network.period ≡ l.fn.network.period;
  indices : l.network.events ≡ l.fn.network.events;
  rows : l.network.rows ≡ l.fn.network.rows;
}
