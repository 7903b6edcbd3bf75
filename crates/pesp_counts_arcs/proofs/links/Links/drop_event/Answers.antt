-- No activity has the event as an end.
use Rattle.std.proofs.Common.{sym}
use Rattle.pesp_counts_arcs.proofs.StandEdits.{event_dropped}
use Rattle.pesp_counts_arcs.proofs.links.Links.drop_event.Goals as goal

pub returns-clause-stand : goal.returns-clause-stand
returns-clause-stand c I J ok stand =
    let went = rw c.get.ensures.value at c.remove.ensures.places in
    event_dropped I J _ _ c.args.event ok went c.remove.ensures.paired (rw (sym c.self.view_is) at stand)
