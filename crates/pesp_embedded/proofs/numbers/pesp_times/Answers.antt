-- What is told of the workbench is told of the session that keeps it.
use Rattle.pesp_embedded.proofs.numbers.pesp_times.Goals as goal

pub returns-clause-answered : goal.returns-clause-answered
returns-clause-answered c = rw (← c.in-Some.ensures.kept) (rw c.deref.ensures at c.show_times.ensures)
