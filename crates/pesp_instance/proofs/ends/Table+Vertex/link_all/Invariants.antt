use Rattle.std.proofs.Common.{◌≡◌, ◌++◌, List}
use Rattle.pesp_base.specs.declared.activity.Activity.{Activity}
use Rattle.pesp_instance.proofs.Linked.{IsLinkedTo}
use Rattle.pesp_instance.proofs.ends.Table+Vertex.link_all.Given as goal

-- the activities so far are listed
abbrev pub invariant-loop-activity : goal.invariant-loop-activity
invariant-loop-activity l =
    (front : List Activity) × (front ++ l.activity-iterator ≡ l.fn.activities.values) × IsLinkedTo l.fn.self.values l.self.values front
