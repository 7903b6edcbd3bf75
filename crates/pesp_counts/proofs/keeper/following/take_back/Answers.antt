-- What an edit added can be dropped.
use Rattle.std.proofs.Common.{◌∙◌, ap, sym}
use Rattle.pesp_instance.specs.Edited.{edited}
use Rattle.pesp_domains.proofs.Edits.{undone}
use Rattle.pesp_counts.proofs.Housed.{undone_activity}
use Rattle.pesp_counts.proofs.keeper.following.take_back.Goals as goal
use Rattle.pesp_counts.proofs.keeper.following.take_back.Goals.{in-AddEvent, in-AddActivity}

pub returns : goal.returns
returns c I network made =
    elim c.match-edit.branch [
      | in-AddEvent w ↦ undone I c.args.instance.now c.apply.new.self w.in-AddEvent.event c.apply.result network (ap (edited I) (sym w.in-AddEvent.is) ∙ made) (rw w.undoing-is at c.apply.ensures.ok) (rw w.undoing-is at c.apply.ensures.err)
      | in-AddActivity w ↦ undone_activity I c.args.instance.now c.apply.new.self w.in-AddActivity.activity c.apply.result network (ap (edited I) (sym w.in-AddActivity.is) ∙ made) (rw w.undoing-is at c.apply.ensures.ok) (rw w.undoing-is at c.apply.ensures.err)
    ]
