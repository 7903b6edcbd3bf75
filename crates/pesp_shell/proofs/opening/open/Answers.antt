-- What is read has one period, and is what the files open.
use Rattle.std.proofs.Common.{refl, sym}
use Rattle.pesp_shell.specs.Opening.{opened}
use Rattle.pesp_shell.proofs.OpeningLemmas.{one_period}
use Rattle.pesp_shell.proofs.opening.open.Goals as goal

pub workbench_of-requires : goal.workbench_of-requires
workbench_of-requires g c =
    let (I, fixed, stand, same) = c.in_ok-instance.ensures.ok in
    sym (one_period _ c.in_ok-instance.instance I fixed c.in_ok-instance.timetable stand same)

pub returns-clause-fault : goal.returns-clause-fault
returns-clause-fault g c =
    let (I, fixed, stand, same) = c.in_ok-instance.ensures.ok in
    (opened I fixed c.in_ok-instance.timetable, (I, fixed, c.in_ok-instance.timetable, stand, refl), refl)
