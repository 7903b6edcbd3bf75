-- The times so far, and those of events among the rest, are those of events among all.
use Rattle.pesp_shell.proofs.OpeningLemmas.{IsCopied}
use Rattle.pesp_shell.proofs.opening.set_times.Given as goal

abbrev pub invariant-loop-timed : goal.invariant-loop-timed
invariant-loop-timed g l = IsCopied l.fn.bench.instance l.fn.timetable l.timed-iterator l.bench
