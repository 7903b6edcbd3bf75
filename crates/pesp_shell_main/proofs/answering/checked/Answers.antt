-- What is read of the files has one period, and after files that can be read only memory is wanted.
use Rattle.std.proofs.Common.{refl}
use Rattle.pesp_shell.proofs.OpeningLemmas.{one_period}
use Rattle.pesp_shell_main.proofs.answering.checked.Goals as goal

pub three_replies-requires : goal.three_replies-requires
three_replies-requires c =
    let (I, fixed, stand, same) = c.in_ok-instance.ensures.ok in
    one_period _ c.in_ok-instance.instance I fixed c.in_ok-instance.timetable stand same

pub returns-clause-fault : goal.returns-clause-fault
returns-clause-fault c =
    let (I, fixed, stand, same) = c.in_ok-instance.ensures.ok in
    (I, fixed, c.in_ok-instance.timetable, stand, refl)
