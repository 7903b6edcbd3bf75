-- The pass so far; while nothing was taken out, each activity is still to come or settled.
use Rattle.std.proofs.Common.{◌≡◌, false, All, ◌⊎◌}
use Rattle.std.specs.List.{Contains}
use Rattle.pesp_base.specs.declared.activity.Activity.{Activity}
use Rattle.pesp_domains.specs.declared.side.Side.{Side}
use Rattle.pesp_domains.specs.Rows.{HaveSameShape, has}
use Rattle.pesp_domains.specs.Sweeps.{IsPass, IsSettledAt}
use Rattle.pesp_domains.proofs.sweep.sweep.Given as goal

abbrev pub invariant-loop-activity : goal.invariant-loop-activity
invariant-loop-activity l = record {
  can_next : (goal.iterator-loop-activity).can_next l.activity-iterator;
  is_finite : (goal.iterator-loop-activity).is_finite l.activity-iterator;
  among : All (Contains l.instance.activities) l.activity-iterator;
  shape : HaveSameShape l.initial.rows l.rows;
  pass : IsPass l.instance (has l.initial.rows) (has l.rows) l.changed;
  settled : l.changed ≡ false → (side : Side) (a : Activity) → Contains l.instance.activities a → Contains l.activity-iterator a ⊎ IsSettledAt l.instance.period (has l.rows) side a;
}
