-- The activity has one place, or none.
use Rattle.std.proofs.Common.{◌∙◌, sym}
use Rattle.pesp_counts.proofs.Relinked.{head_low}
use Rattle.pesp_counts.proofs.keeper.change.Change.of_activity.Goals as goal

pub events_of-from-requires : goal.events_of-from-requires
events_of-from-requires c = head_low c.requires.0 c.args.links.now c.args.id c.in-true-Some.place c.requires.1 (sym c.activity-change.ensures ∙ c.in-true-Some.is-1)
