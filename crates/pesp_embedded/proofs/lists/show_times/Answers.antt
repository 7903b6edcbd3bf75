-- It is that of the workbench.
use Rattle.pesp_embedded.proofs.lists.show_times.Goals as goal

pub returns : goal.returns
returns c = rw (c.timetable.ensures.value, c.instance.ensures) at c.show_timetable.ensures
